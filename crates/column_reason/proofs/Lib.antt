pub mod Counts
pub mod Seeking
pub mod Telling
pub mod Types
