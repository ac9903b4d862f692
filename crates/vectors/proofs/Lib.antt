-- Laws that the proofs of several functions cite.
pub mod Clamp
pub mod Same
pub mod Fronts
pub mod Counting
pub mod Rests
