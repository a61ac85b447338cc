pub mod Deciding
pub mod Differing
pub mod Following
pub mod Own
pub mod Standing
pub mod Surveyed
pub mod Written
