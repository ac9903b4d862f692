-- Laws that the proofs of several functions, and the crates above, cite.
pub mod Counting
pub mod Reading
pub mod Ranged
pub mod Spelling
pub mod Examples
