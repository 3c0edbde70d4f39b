pub mod Commands
pub mod Issuable
pub mod Issued
pub mod Laws
