pub mod Runs
pub mod Lengths
pub mod Inputs
pub mod Pairs
