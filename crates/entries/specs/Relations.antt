-- What the answers of the code say of the definitions.
pub mod Meets
pub mod Marked
