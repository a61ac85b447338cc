pub mod Contract
pub mod Edit
pub mod Kind
pub mod Kinds
pub mod Lent
pub mod Ready
pub mod Steps
