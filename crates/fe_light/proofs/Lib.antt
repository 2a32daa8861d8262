-- the laws that belong to no one function
pub mod Exponents
pub mod Turns
pub mod Numbers
pub mod Ranges
