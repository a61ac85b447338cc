pub mod Cursor
pub mod Kept
pub mod Steps
pub mod Taking
