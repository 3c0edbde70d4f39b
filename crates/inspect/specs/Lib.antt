pub mod Find
pub mod Show
