pub mod Groups
pub mod Lexing
pub mod QuotedNames
pub mod Statements
pub mod Tables
pub mod Units
pub mod Whole
