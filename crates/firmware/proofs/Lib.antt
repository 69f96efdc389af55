-- The length of a request, what is counted, the slot of an ask, that a notice arms as its reply, and that a round hands out notices.
pub mod Length
pub mod Counts
pub mod Place
pub mod Heard
pub mod Handed
