-- What the tests of a record show, and that a new record passes them.
pub mod Bounds
pub mod MadeValid
pub mod Parts
