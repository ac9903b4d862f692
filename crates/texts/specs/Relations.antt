-- What the functions do to a list.
pub mod Report
