pub mod Facts
pub mod Text
