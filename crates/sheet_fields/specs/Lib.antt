pub mod Fields
pub mod BoxFields
pub mod Kinds
