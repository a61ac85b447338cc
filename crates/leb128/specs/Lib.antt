pub mod Answer
pub mod Cases
pub mod Digits
pub mod Got
pub mod Read
pub mod Short
pub mod Sound
pub mod Write
