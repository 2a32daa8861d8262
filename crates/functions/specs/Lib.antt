pub mod Records
pub mod Functions
pub mod Refusals
pub mod Ranges
pub mod Names
pub mod Call
pub mod Cases
