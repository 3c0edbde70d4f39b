pub mod Facts
pub mod Lines
