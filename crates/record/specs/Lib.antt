-- The record: its networks, a new one, the answers' numbers, its two accesses, and what is set in one.
pub mod Tests
pub mod Network
pub mod New
pub mod Answers
pub mod Sides
pub mod Setters
