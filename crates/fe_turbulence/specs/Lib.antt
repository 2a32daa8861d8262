pub mod Turbulence
pub mod Ranges
pub mod ProofRanges
pub mod Cases
