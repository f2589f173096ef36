pub mod Integers
pub mod RoundedUp
