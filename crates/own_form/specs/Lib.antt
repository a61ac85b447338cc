pub mod Cases
pub mod Difference
pub mod Form
pub mod Heads
