mod Testing
mod Rows
mod Order
pub mod Accepted
pub mod Laws
pub mod Apart
