mod Fitting
pub mod Worked
