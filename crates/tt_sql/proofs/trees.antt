-- Which trees the grammar gives.
pub mod Expressions
pub mod Leaves
pub mod Predicates
pub mod Queries
pub mod Statements
pub mod Tables
