-- Number literals; Relations has what only contracts and proofs use.
pub mod Literal
pub mod Spelling
pub mod Relations
