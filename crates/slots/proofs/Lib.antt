pub mod Moves
pub mod Splicing
