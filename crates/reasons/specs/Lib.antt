pub mod Conditions
pub mod Reasons
pub mod Parts
