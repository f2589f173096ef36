mod Making
mod Fitting
mod Cases
pub mod Putting
mod Room
mod Saying
pub mod Worked
