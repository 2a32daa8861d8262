-- the laws that belong to no one function
pub mod Laws
pub mod Lengths
pub mod Heads
pub mod Ranges
pub mod Ends
