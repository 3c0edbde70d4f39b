pub mod Format
pub mod Promises
