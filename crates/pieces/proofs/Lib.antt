pub mod Possible
