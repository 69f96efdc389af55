-- An asking round, its replies as numbers, the same from where it stands, what the ten timers live through, and in which order they are named.
pub mod Words
pub mod Round
pub mod Going
pub mod Acts
pub mod Order
