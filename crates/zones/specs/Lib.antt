pub mod Facts
pub mod Faults
pub mod Zone
