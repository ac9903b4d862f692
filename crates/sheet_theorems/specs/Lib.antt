pub mod Begun
pub mod ClaimsJoining
pub mod ClaimsSteadiness
pub mod ClaimsAnswers
pub mod ClaimsRefusals
pub mod HighestUse
pub mod ClaimsFigures
