pub mod OnNumbers
pub mod Laws
mod Told
