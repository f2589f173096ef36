pub mod Conditions
pub mod Query
pub mod TrueBodies
pub mod SunArcs
pub mod Parts
