pub mod Readings
pub mod Refusals
