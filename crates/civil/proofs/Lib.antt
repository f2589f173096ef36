pub mod Years
pub mod Months
pub mod Dates
pub mod Next
pub mod Read
pub mod Laws
