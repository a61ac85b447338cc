pub mod Bytes
pub mod Examples
pub mod Following
pub mod Judging
pub mod Prefixes
pub mod Replaying
pub mod SpanLaws
