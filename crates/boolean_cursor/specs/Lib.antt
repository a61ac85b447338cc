pub mod Cases
pub mod State
pub mod TurnCursor
