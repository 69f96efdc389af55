-- Messages from the network, as document 01 has them in its section Messages, and their faults as document 02 has them in R-1.
pub mod Message
pub mod Faults
