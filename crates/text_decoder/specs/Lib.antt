pub mod Cases
pub mod Slots
