pub mod Again
pub mod Keeping
