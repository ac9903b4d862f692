-- How the code stands for the definitions: what contracts and proofs use, and no definition rests on.
pub mod Shown
pub mod Places
