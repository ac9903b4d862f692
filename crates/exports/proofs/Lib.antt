-- What the proofs of several functions use, and that 0 means done.
mod Told
mod Finished
pub mod Zero
pub mod Nesting
