pub mod GaussianBlur
pub mod Offset
pub mod DropShadow
pub mod Ranges
pub mod ProofRanges
pub mod Cases
