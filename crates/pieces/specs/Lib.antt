pub mod Boolean
pub mod Cases
pub mod Delta
pub mod Rle
