pub mod Blocks
pub mod Columns
pub mod CutBlock
pub mod Examples
pub mod Rows
pub mod Saved
pub mod Tables
