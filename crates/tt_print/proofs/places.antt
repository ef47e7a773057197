-- Marks and trees without their places.
pub mod Expressions
pub mod Parts
pub mod Predicates
pub mod Queries
pub mod Statements
