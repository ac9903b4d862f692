pub mod ErrorList
pub mod Relations
