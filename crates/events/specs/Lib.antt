-- Events on the whole record.
pub mod Alike
pub mod Parts
pub mod Step
