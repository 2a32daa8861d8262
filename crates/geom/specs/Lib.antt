pub mod Geometry
pub mod Cases
