-- the laws that belong to no one function
pub mod Transfer
pub mod Bounds
pub mod Numbers
