pub mod Lookup
pub mod Outline
pub mod Repeats
pub mod Relations
