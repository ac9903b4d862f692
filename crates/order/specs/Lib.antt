pub mod Order
pub mod Accepted
pub mod Opened
pub mod Cases
pub mod Sameness
pub mod Relations
