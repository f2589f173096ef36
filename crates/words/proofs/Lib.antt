pub mod Runs
pub mod Pieces
pub mod Letters
pub mod Marks
pub mod Places
pub mod Names
