pub mod Disk
pub mod Shows
pub mod Facts
pub mod Cases
