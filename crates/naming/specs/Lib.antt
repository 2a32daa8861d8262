pub mod Names
pub mod Inputs
pub mod Agreement
pub mod Written
pub mod Cases
