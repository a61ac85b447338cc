pub mod Joined
pub mod Scalars
pub mod Scanning
pub mod Table
