-- the laws that belong to no one function
pub mod Sums
pub mod Ranges
pub mod Products
