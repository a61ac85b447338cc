pub mod Ahead
pub mod Differences
