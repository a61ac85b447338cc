pub mod Cases
pub mod Place
