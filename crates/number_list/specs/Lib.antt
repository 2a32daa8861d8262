pub mod Text
pub mod Outcome
pub mod Means
pub mod Lists
pub mod Cases
