pub mod Cases
pub mod Rows
pub mod TableReason
pub mod True
