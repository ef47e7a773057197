-- Trees that their marks determine.
pub mod Expressions
pub mod Marks
pub mod Queries
pub mod Statements
