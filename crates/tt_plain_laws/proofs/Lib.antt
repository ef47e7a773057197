-- Lemmas of the laws.
pub mod Inductions
pub mod entry
pub mod guard
pub mod parts
