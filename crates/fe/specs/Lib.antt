pub mod Attributes
pub mod Keywords
pub mod Colors
pub mod ColorInterpolation
pub mod Pairs
