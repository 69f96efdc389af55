-- Area lists.
pub mod Areas
