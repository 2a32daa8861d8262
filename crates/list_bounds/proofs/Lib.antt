pub mod Lists
pub mod Widths
pub mod Chains
pub mod Words
pub mod Sheets
pub mod Bounds
