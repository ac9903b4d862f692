-- The decoders are exactly the inverses of the encoders.
pub mod Stands
pub mod Numbers
pub mod Octets
pub mod Steps
pub mod Patterns
pub mod Images
pub mod Theorems
pub mod Scalars
pub mod Example
