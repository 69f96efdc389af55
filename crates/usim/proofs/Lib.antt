-- Writing the card's file, and that it reads back.
pub mod Answers
pub mod Back
pub mod Steps
