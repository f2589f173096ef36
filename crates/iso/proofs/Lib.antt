mod Later
pub mod Laws
pub mod Worked
mod Dues
