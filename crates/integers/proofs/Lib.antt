pub mod Less
pub mod Floor
pub mod Reduced
pub mod RoundedUp
