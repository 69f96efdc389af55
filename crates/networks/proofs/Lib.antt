-- Reading a file of networks.
pub mod Reading
