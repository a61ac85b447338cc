pub mod Examples
pub mod Looked
pub mod Turning
