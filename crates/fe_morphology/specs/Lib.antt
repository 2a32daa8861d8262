pub mod Morphology
pub mod Ranges
pub mod ProofRanges
pub mod Cases
