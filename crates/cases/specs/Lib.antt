pub mod Opened
pub mod Text
pub mod Case
pub mod Sentences
pub mod Misreadings
pub mod Conditions
pub mod Refusals
pub mod Vectors
