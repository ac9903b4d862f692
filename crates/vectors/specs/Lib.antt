pub mod Readings
pub mod Lendings
pub mod Rests
