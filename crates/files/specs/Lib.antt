pub mod Facts
pub mod Files
pub mod Walk
