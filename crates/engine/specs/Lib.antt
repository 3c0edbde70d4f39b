pub mod Append
pub mod Commuting
pub mod Counts
pub mod Engine
pub mod Facts
pub mod Frame
pub mod Opens
