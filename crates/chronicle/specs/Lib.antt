-- What a log and its answers tell of a network: R-11's answer, and how it is come by.
pub mod Explained
pub mod Frames
pub mod Words
pub mod Notes
pub mod Acts
pub mod Sheets
pub mod Agreeing
