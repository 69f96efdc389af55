-- What a record holds of one network, a run's answers, and what the history says.
pub mod Run
pub mod Cell
pub mod Tale
pub mod History
pub mod Full
pub mod Own
pub mod Apart
pub mod Across
pub mod Facts
pub mod Permitted
pub mod Replayed
