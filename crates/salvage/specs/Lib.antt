pub mod Fresh
pub mod Kept
pub mod Salvage
pub mod Way
