pub mod Examples
pub mod Summed
pub mod Types
