pub mod Mean
pub mod Table
pub mod Answers
pub mod Filling
pub mod Motions
pub mod Sun
pub mod Subtraction
pub mod Node
