pub mod Progress
pub mod Setters
