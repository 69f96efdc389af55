-- The card's file of forbidden networks.
pub mod Usim
