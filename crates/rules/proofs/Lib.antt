-- Laws of the plan's definitions.
pub mod Sorted
pub mod Turned
