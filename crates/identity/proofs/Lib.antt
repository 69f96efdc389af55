-- The editions' orders, the first source held, and the chooser as edition 1.
pub mod Mapped
pub mod Editions
