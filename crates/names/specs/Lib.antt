pub mod Facts
pub mod Names
