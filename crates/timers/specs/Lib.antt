-- The timer octets, as document 01 has one in its section Messages and document 02 the other in request R-5.
pub mod Timer
