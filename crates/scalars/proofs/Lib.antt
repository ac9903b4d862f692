-- Laws of digits and scalars.
pub mod Scalars
pub mod Utf8
pub mod Examples
pub mod Outside
