pub mod Cases
pub mod Entry
pub mod Following
pub mod Lengths
pub mod Log
pub mod Replay
pub mod Spans
