pub mod Lines
pub mod Together
pub mod Worked
