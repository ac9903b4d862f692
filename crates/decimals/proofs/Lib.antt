-- Laws that the proofs of several functions, and the crates above, cite.
pub mod Same
pub mod Run
pub mod Tests
pub mod Shown
pub mod Shortest
pub mod Writing
pub mod FinalDot
