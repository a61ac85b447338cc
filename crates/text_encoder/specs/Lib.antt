pub mod Edits
pub mod Walks
