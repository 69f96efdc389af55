-- Arrays of numbers, read to a count, numbers that stop at a bound, and octets put into a buffer.
pub mod Upto
pub mod Bounds
pub mod Splice
