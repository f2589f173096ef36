pub mod Longitudes
pub mod Answers
