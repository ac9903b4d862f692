-- Laws that the proofs of several functions cite.
pub mod Literals
pub mod Firsts
pub mod Keys
pub mod Choosing
