-- What the answers of the code say of the definitions.
pub mod Tallies
pub mod Lists
