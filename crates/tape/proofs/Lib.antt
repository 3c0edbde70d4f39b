pub mod Blocks
pub mod Loop
pub mod Playing
pub mod Stores
pub mod Texts
pub mod Windows
