pub mod Columns
pub mod Fitting
pub mod Worked
