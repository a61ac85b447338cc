pub mod Cases
pub mod Decoded
pub mod Turns
