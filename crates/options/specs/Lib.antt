pub mod Facts
pub mod Options
pub mod Reading
