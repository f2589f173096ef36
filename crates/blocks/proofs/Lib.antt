pub mod Steps
pub mod Numbers
pub mod Laying
pub mod Answers
pub mod Laws
