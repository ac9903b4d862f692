-- Bytes, decimals and their text; Relations has what only contracts and proofs use.
pub mod Ascii
pub mod Bytes
pub mod Decimal
pub mod Text
pub mod FinalDot
pub mod Relations
