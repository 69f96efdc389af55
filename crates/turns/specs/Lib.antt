-- Timers, document 01's rejects and the words they are told in, and what each event makes of an access.
pub mod Timers
pub mod Words
pub mod Rejects
pub mod Turns
