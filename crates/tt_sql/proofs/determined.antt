-- Trees that their marks determine.
pub mod Expressions
pub mod Statements
