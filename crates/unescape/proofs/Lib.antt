-- Laws of what string literals read as.
pub mod Reading
pub mod Examples
pub mod Joining
pub mod WellFormed
