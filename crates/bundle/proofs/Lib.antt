-- Laws that the proofs of several functions cite, and the theorems about additions.
pub mod Founding
pub mod Placing
pub mod Adds
pub mod Grown
pub mod Accepted
