pub mod Subregions
pub mod Means
pub mod Absent
pub mod Cases
