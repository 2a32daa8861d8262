pub mod Twins
pub mod Cases
