pub mod Lines
mod Fitting
