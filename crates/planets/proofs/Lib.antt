pub mod Lines
pub mod Folds
pub mod Signs
pub mod Steps
pub mod Bounds
pub mod Answers
