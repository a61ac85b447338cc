pub mod Clean
pub mod Decoding
pub mod Faults
pub mod Limits
pub mod Turning
