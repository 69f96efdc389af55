-- The clock, a slot, the table and whom it names, what a reply makes of it, and for how long nobody has to ask.
pub mod Clock
pub mod Slots
pub mod Asking
pub mod Arming
pub mod Waiting
