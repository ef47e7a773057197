-- The words and the text of statements.
pub mod Changes
pub mod Expressions
pub mod Predicates
pub mod Queries
pub mod Statements
pub mod Tables
pub mod Words
