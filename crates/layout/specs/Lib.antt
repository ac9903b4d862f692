pub mod Exact
pub mod Utf8
pub mod Example
