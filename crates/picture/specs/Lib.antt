pub mod Scale
pub mod Shade
pub mod Stretch
