pub mod Before
pub mod Compared
pub mod Accepted
pub mod Ascending
pub mod Least
pub mod Sorted
pub mod Allowed
pub mod Sameness
