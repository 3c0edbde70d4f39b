pub mod Examples
pub mod Naming
pub mod Reading
