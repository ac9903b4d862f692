-- Laws that the proofs of several functions cite, and the theorems on sheet images.
pub mod Limits
pub mod Views
pub mod Shown
pub mod Exact
