-- Laws that the proofs of several functions cite, and the theorem about holders.
pub mod Inside
pub mod Open
pub mod Walk
pub mod Headers
pub mod Held
pub mod Decoded
pub mod Located
pub mod Parts
pub mod Lengths
pub mod Holders
pub mod Sizes
