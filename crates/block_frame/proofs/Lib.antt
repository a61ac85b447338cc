pub mod Blocks
pub mod Cutting
pub mod Framing
pub mod Storing
pub mod Tables
