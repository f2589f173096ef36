pub mod DayLines
pub mod Pieces
pub mod Together
pub mod Worked
mod Filling
mod Headings
