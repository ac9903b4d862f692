-- Laws that the proofs of several functions, and the crates above, cite.
pub mod Tests
pub mod Merging
pub mod Equality
pub mod Exactly
pub mod Examples
pub mod Places
