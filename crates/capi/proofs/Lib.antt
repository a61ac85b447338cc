-- What follows from the contracts, and laws of the forms.
pub mod Nth
pub mod One
