pub mod Collecting
pub mod Lists
pub mod Claims
