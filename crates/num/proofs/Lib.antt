-- the laws that belong to no one function
pub mod Laws
pub mod Patterns
pub mod Narrowing
pub mod Finite
pub mod Roundings
pub mod Wholes
pub mod Library
pub mod Each
pub mod Defaults
