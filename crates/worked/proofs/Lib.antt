pub mod Starred
pub mod Planets
