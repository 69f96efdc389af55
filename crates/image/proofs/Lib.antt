-- Numbers laid and read, the checksum, an image's frame; what was saved loads back, of every value of the types, one octet changed is found, and records that are the same are one.
pub mod Lays
pub mod Sums
pub mod Filled
pub mod Equal
pub mod Judged
pub mod Back
pub mod Values
pub mod Undone
pub mod Flipped
pub mod Single
