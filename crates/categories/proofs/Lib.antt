-- Laws of the table as it is held.
pub mod Entries
