pub mod Words
pub mod Naming
pub mod Made
pub mod Claim
