-- What the proofs of messages share.
pub mod Lengths
pub mod Readings
pub mod Within
pub mod Walk
pub mod Lowest
pub mod Told
