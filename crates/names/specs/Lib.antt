pub mod Ids
pub mod InUse
pub mod Kinds
