pub mod Examples
pub mod Layers
