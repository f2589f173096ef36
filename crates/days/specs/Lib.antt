pub mod Refusals
pub mod Days
pub mod Weekdays
