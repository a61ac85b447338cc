pub mod Added
pub mod Cases
pub mod Difference
pub mod Sofar
pub mod Sums
