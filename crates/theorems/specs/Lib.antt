pub mod Finished
pub mod Steadiness
pub mod Written
pub mod Unlimited
pub mod HighestUse
pub mod Figures
pub mod Leaves
