pub mod Account
pub mod Counts
pub mod Facts
