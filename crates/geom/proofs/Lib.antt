-- the laws that belong to no one function
pub mod Sides
pub mod Gaps
pub mod Rectangles
