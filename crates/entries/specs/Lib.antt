-- One access's entries.
pub mod Places
pub mod Order
pub mod Entries
pub mod Counting
