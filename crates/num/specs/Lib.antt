pub mod Constants
pub mod Numbers
pub mod Narrowed
pub mod Whole
pub mod Means
pub mod Sign
pub mod Cases
