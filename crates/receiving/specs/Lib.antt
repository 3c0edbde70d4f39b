pub mod Bytes
pub mod Facts
