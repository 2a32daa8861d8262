-- the laws that belong to no one function
pub mod Splits
pub mod Tokens
pub mod Steps
pub mod Lists
pub mod Passing
