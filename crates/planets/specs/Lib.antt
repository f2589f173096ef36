pub mod Tables
pub mod Steps
pub mod OnDays
pub mod Parts
