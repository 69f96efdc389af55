-- What an event comes to: its answer and its effect together, sorted by whose event it is and by access.
pub mod Plan
pub mod Sides
