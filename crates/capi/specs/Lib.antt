pub mod Cases
pub mod Cursors
pub mod Forms
pub mod Logs
pub mod Pieces
pub mod Reasons
pub mod Told
