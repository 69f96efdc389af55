-- What makes a record valid.
pub mod Valid
