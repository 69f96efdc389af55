-- Laws of the entries.
pub mod Chunks
pub mod Counting
pub mod Joining
pub mod Laws
pub mod Mask
pub mod Taking
pub mod Naming
pub mod Ranks
pub mod Seeing
