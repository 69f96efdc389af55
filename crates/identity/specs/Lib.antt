-- The identity that a request opens with, as document 01 has it in its section Messages and document 02 in R-7.
pub mod Mapping
pub mod Identity
pub mod Choice
