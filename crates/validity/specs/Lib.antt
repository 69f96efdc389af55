-- How long a record's arrays are, what an event is answered, a run of events; the records after a card, a power cycle and each row of the rejects; what is told.
pub mod Sized
pub mod Answered
pub mod Run
pub mod Card
pub mod Reject
pub mod Rows
pub mod Causes
pub mod Reply
pub mod Import
pub mod Power
pub mod Update
pub mod Wait
