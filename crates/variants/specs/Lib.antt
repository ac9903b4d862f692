pub mod Outline
pub mod Choice
pub mod Relations
