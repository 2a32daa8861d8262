pub mod Attributes
pub mod Sheets
pub mod Answers
