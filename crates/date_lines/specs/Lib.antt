pub mod Lines
pub mod Texts
pub mod Told
