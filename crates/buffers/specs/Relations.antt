-- What the functions do to a buffer.
pub mod Append
