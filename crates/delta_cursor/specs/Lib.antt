pub mod Answer
pub mod Cases
pub mod State
pub mod SumCursor
