pub mod Ahead
pub mod Comparing
pub mod Examples
