pub mod Facts
pub mod Fill
pub mod Mount
