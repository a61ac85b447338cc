pub mod Chosen
pub mod Columns
pub mod Frame
