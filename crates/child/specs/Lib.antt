pub mod Child
pub mod Means
pub mod Merges
