pub mod Utf8
pub mod Tables
pub mod Names
pub mod Columns
