pub mod LightSource
pub mod LightingColor
pub mod DiffuseLighting
pub mod SpecularLighting
pub mod Ranges
pub mod ProofRanges
