-- What C firmware is told, and what its calls come to.
pub mod Notice
pub mod Calls
pub mod Clock
pub mod Storage
