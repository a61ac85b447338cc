pub mod Asking
pub mod Demand3
pub mod Kept
pub mod Lending
pub mod LentEdits
pub mod Storing
pub mod Truth
pub mod Written
