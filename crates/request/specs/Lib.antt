-- The registration request, as document 01 has it in its section Messages and document 02 in R-3 and R-5.
pub mod Layout
pub mod Reading
pub mod Levels
pub mod Faults
pub mod Reader
pub mod Writing
pub mod Steps
