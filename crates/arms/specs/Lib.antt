pub mod Degrees
pub mod Orders
pub mod Ranges
pub mod Parts
