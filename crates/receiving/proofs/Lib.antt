pub mod Adding
pub mod Bounds
pub mod Collected
pub mod Feeding
pub mod Receiving
pub mod Units
pub mod Zones
