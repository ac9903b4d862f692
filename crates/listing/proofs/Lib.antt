-- Laws that the proofs of several functions cite.
pub mod Tallying
pub mod Records
