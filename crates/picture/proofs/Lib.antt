-- Laws that several functions' proofs cite; and `Drawn`, what a picture shows, as theorems.
pub mod Drawn
pub mod Marks
pub mod Ranges
pub mod Shading
