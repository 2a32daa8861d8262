pub mod Children
pub mod Claim
pub mod Plans
