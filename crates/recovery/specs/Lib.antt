pub mod Facts
pub mod Fits
pub mod Grid
pub mod Recovery
pub mod Success
