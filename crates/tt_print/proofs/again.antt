-- What printed texts are read as.
pub mod Changes
pub mod Expressions
pub mod Literals
pub mod Moments
pub mod Parts
pub mod Placing
pub mod Predicates
pub mod Queries
pub mod Quoted
pub mod ShortStatements
pub mod Spelling
pub mod Statements
pub mod Tables
pub mod Texts
pub mod Tokens
