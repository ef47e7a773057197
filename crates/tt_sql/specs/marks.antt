-- What a derivation notes of a tree.
pub mod Changes
pub mod Expressions
pub mod Queries
pub mod Statements
pub mod Tables
