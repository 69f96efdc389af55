-- Optional elements, as document 01 has them in its section Messages.
pub mod Element
