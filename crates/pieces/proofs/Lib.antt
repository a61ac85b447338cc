pub mod BooleanPieces
pub mod DeltaPieces
pub mod Repeating
pub mod RlePieces
