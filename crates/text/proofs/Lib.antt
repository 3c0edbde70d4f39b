pub mod Decimal
pub mod Same
pub mod Stores
