pub mod Additions
pub mod Growth
pub mod Gives
pub mod Relations
