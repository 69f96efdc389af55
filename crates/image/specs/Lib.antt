-- The record and its deadlines as octets: numbers in octets, what their widths keep, the layout, the checksum, what is saved and loaded, and whether two records are one.
pub mod Numbers
pub mod Widths
pub mod Checksum
pub mod Layout
pub mod Image
pub mod Shape
pub mod Same
