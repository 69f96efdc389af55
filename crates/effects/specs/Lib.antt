-- The effect of each event.
pub mod Effects
