pub mod Blend
pub mod ColorMatrix
pub mod ComponentTransfer
pub mod Composite
pub mod Means
pub mod Ranges
