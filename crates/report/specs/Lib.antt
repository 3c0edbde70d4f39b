pub mod Facts
pub mod Report
