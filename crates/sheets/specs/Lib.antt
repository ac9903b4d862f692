pub mod Sheet
pub mod Refused
pub mod Cases
