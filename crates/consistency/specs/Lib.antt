pub mod Possible
pub mod FileHistory
pub mod System
pub mod Claim
pub mod Demand
pub mod Cases
pub mod Runs
