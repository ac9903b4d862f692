-- Laws of bytes written over a buffer.
pub mod Place
