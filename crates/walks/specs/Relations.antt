-- Relations that contracts and proofs use.
pub mod Passes
