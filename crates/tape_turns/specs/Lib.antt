pub mod Facts
pub mod Turns
