pub mod Grammar
pub mod Limits
pub mod Value
pub mod Means
pub mod Windows
pub mod Cases
