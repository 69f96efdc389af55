-- Laws of the events' definitions.
pub mod Networks
pub mod Rest
pub mod Calm
pub mod Whole
pub mod Left
pub mod Front
pub mod Second
pub mod Orders
pub mod Columns
