-- What a list of tests shows, and the answers' numbers.
pub mod Bounds
pub mod Numbers
