pub mod Peaks
pub mod Ahead
pub mod Laws
pub mod Reckoned
mod Scanning
pub mod Worked
