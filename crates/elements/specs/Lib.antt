pub mod Elements
pub mod Means
