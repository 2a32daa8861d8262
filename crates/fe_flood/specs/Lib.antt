pub mod Flood
pub mod Ranges
pub mod Cases
