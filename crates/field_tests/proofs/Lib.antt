pub mod Finiteness
pub mod Zeros
