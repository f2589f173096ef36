pub mod Naturals
pub mod Bounds
pub mod Answers
pub mod Editions
pub mod TrueSun
