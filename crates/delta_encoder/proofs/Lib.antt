pub mod Back
pub mod Differing
pub mod Held
pub mod Passing
pub mod Taking
pub mod Writing
