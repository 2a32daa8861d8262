pub mod DisplacementMap
pub mod ProofRanges
pub mod Cases
