pub mod Bounds
pub mod Counted
pub mod Filling
pub mod Leaves
pub mod Mounted
pub mod Tables
