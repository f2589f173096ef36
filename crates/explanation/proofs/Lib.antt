mod Naming
mod Making
mod Sizes
pub mod Fitting
mod Answers
pub mod Worked
mod Elements
