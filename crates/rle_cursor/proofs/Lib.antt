pub mod Calls
pub mod Outs
