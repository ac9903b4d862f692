pub mod Marks
pub mod Claims
pub mod Cases
