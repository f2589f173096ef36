pub mod Explanations
pub mod Elements
