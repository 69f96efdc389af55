-- Laws of the deadlines: a lap's bounds, a slot's laps, one round over true time, the table slot by slot, and the wait.
pub mod Wrap
pub mod Heeding
pub mod Kept
pub mod Settled
pub mod Turn
pub mod Choice
pub mod Wake
