pub mod Openings
pub mod Parts
pub mod Pieces
pub mod Stores
