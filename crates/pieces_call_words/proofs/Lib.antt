pub mod Held
pub mod InWords
