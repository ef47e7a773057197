pub mod Changes
pub mod Choices
pub mod Created
pub mod Lexing
pub mod Parsed
pub mod Tables
pub mod Waits
