-- Laws that the proofs of several functions cite, and what the outlines have to do with the decoders.
pub mod Steps
pub mod Passing
