pub mod Ahead
pub mod Writer
