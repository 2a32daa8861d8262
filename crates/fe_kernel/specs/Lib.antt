pub mod Order
pub mod Target
pub mod Divisor
pub mod ConvolveMatrix
pub mod Means
pub mod Ranges
pub mod ProofRanges
