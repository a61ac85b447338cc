pub mod Cases
pub mod Over
