-- the laws that belong to no one function
pub mod Signs
pub mod Running
pub mod Scales
pub mod Parts
pub mod Tens
pub mod Powers
pub mod Held
pub mod Counts
pub mod Items
pub mod Bounded
pub mod Bounds
pub mod Worth
pub mod Windows
