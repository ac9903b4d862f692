-- How what the code holds and answers stands to the definitions.
pub mod Sought
pub mod Pick
