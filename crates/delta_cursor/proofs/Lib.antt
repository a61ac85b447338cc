pub mod Calls
pub mod Examples
pub mod Held
pub mod Outs
pub mod SumCursors
