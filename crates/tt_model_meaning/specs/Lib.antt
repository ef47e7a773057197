pub mod Givens
pub mod Scopes
pub mod Values
