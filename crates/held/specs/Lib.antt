pub mod Facts
pub mod Held
