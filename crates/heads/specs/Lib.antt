pub mod Header
pub mod Tags
