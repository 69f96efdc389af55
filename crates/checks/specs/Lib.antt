-- Each event's checks, and the answer that they give.
pub mod Answers
