pub mod Answers
pub mod Body
pub mod Bytes
pub mod Lines
pub mod Pieces
pub mod Program
pub mod Script
pub mod Makeup
