pub mod Cases
pub mod Why
