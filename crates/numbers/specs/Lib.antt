-- Values, equality and NUMBER; Relations has what only contracts and proofs use.
pub mod Equal
pub mod Number
pub mod Value
pub mod Relations
