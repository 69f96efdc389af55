-- Laws of the checks.
pub mod Files
