-- Laws that the proofs cite.
pub mod Codes
pub mod Elements
pub mod Held
pub mod Inside
pub mod Order
pub mod Table
