-- Laws that the crates above cite.
pub mod WellFormed
pub mod Ids
