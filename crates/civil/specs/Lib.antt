pub mod Calendar
pub mod Answers
pub mod Serial
