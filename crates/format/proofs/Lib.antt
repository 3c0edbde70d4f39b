pub mod Alone
pub mod Bytes
pub mod Checks
pub mod Promises
