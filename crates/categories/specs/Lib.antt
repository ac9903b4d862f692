-- The table as it is held.
pub mod Held
