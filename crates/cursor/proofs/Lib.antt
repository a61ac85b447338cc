pub mod Advances
pub mod Agreeing
pub mod Cursors
pub mod Keeping
pub mod Pieces
pub mod Saying
pub mod Stepping
pub mod Taking
