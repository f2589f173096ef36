pub mod Entries
pub mod Runs
pub mod Listed
pub mod Told
