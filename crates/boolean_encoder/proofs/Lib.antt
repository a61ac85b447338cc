pub mod Back
pub mod Counting
pub mod Writing
