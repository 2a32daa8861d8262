pub mod Walking
pub mod Recording
pub mod Listing
