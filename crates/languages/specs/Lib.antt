pub mod Languages
pub mod Unmarked
