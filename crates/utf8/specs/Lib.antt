pub mod Due
pub mod Scalar
pub mod Utf8
