pub mod Chain
pub mod Means
