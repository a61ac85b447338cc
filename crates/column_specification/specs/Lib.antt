pub mod Cases
pub mod Key
pub mod Served
pub mod Specification
pub mod TypeNumber
