pub mod Few
pub mod Runs
pub mod Walks
