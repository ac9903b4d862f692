-- Plural categories; Relations has what only contracts and proofs use.
pub mod Plural
pub mod Table
pub mod Relations
