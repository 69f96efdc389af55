-- Networks in three octets each.
pub mod Networks
