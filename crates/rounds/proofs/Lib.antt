-- Laws of a round: the numbers laid, and timer after timer; that the table stays fit, that each timer changes the record, that a round ends and names each slot once at most; the theorem of rounds over true time,
-- and that nobody oversleeps.
pub mod Laying
pub mod Goes
pub mod Fit
pub mod Matched
pub mod Outs
pub mod Chance
pub mod Handed
pub mod Changed
pub mod Bound
pub mod Once
pub mod Lives
pub mod Seen
pub mod Truth
pub mod Order
pub mod Waits
