-- What the bytes say of a store or an expression that decodes.
pub mod Heads
