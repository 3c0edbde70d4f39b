pub mod Blocks
pub mod Facts
pub mod Tape
