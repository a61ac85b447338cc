pub mod Bytes
pub mod Examples
pub mod Firsts
pub mod Reading
pub mod Telling
pub mod Truths
