mod Short
pub mod WordLaws
pub mod Words
