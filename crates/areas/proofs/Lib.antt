-- Laws that the proofs cite.
pub mod Keep
pub mod Ways
