pub mod Whole
pub mod Conditions
pub mod Shows
pub mod SoundZone
pub mod Reported
pub mod Found
pub mod Cases
