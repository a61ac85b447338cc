pub mod Cases
pub mod Word
