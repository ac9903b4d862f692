-- Relations that inner contracts and proofs use.
pub mod Answers
pub mod Runs
pub mod Targets
pub mod Meets
pub mod Leaves
pub mod Members
pub mod Values
pub mod Parts
