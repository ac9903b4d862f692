pub mod Outline
pub mod Relations
