pub mod Examples
pub mod Finding
