pub mod Calls
pub mod Outs
pub mod TurnCursors
