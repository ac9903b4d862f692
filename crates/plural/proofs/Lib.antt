-- Laws that the proofs of several functions, and the crates above, cite.
pub mod Categories
pub mod Examples
pub mod Table
pub mod Printed
