pub mod Decision
pub mod Facts
