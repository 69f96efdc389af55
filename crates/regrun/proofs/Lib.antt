-- Laws that the proofs cite.
pub mod Room
pub mod Laps
