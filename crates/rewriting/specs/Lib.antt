pub mod Cutter
pub mod Rewritten
pub mod Turned
pub mod Turning
pub mod Values
