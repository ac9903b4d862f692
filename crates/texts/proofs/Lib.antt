-- Laws that the proofs of several functions cite, and the error list read back.
pub mod Recording
pub mod ErrorList
pub mod Examples
