-- What callers cite of the answers.
pub mod Laws
