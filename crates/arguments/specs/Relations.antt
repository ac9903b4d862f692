-- Relations between what the code holds and the definitions: contracts and proofs cite them, no definition rests on them.
pub mod Checked
pub mod Given
pub mod Outline
pub mod Places
