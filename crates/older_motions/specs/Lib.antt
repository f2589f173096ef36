pub mod OlderMotions
pub mod Drifts
pub mod Parts
