-- Laws that the proofs of several functions cite.
pub mod Messages
pub mod Passing
pub mod Ends
pub mod Names
