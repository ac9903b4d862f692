-- Laws that the proofs of several functions cite.
pub mod Marking
pub mod Seeking
pub mod Places
pub mod Notes
