-- Relations that inner contracts and proofs use.
pub mod Trail
