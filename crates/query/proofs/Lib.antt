pub mod Conditions
pub mod Accepted
pub mod Numbers
pub mod Sets
pub mod TrueBodies
pub mod SunArcs
