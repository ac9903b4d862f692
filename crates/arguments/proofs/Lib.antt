-- Laws that the proofs of several functions cite.
pub mod Laws
pub mod Views
pub mod Found
pub mod Sought
pub mod Placed
pub mod Running
pub mod Noting
pub mod Judging
