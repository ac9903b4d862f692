pub mod Numbers
pub mod Zero
pub mod Nesting
