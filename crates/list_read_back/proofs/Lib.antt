pub mod Same
pub mod Walks
pub mod ReadBack
pub mod Claims
pub mod NamedNumbers
