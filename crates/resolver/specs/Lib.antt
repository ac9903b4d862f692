pub mod Formats
pub mod Relations
