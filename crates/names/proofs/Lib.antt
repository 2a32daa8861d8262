pub mod Listed
pub mod Table
