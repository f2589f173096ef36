pub mod Catalogue
pub mod Pieces
pub mod Each
