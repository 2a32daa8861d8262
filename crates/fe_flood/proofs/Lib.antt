-- the laws that belong to no one function
pub mod Opacity
pub mod Ranges
