pub mod Pieces
pub mod Laws
pub mod Columns
pub mod Spelling
pub mod Worked
