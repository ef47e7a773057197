-- What printed texts are read as.
pub mod Spelling
pub mod Texts
pub mod Tokens
