pub mod Zodiac
pub mod Passed
