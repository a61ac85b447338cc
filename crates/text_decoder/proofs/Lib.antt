pub mod Behind
pub mod Filled
pub mod Only
