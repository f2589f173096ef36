pub mod Suns
pub mod Passed
pub mod Entering
pub mod Answers
pub mod Filling
pub mod Laws
pub mod Worked
