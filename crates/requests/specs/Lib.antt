pub mod Image
pub mod Encode
pub mod Valid
pub mod Relations
