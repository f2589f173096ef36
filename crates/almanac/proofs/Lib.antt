pub mod Through
pub mod Writing
pub mod Answers
pub mod Laws
pub mod Worked
