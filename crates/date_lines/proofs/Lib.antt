mod Splitting
pub mod Reading
mod Measuring
mod Putting
mod Lines
pub mod Laws
