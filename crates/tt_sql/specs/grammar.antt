-- The grammar of statements, and what it derives.
pub mod Combinators
pub mod Examples
pub mod Grammar
pub mod KindExamples
pub mod Lexemes
pub mod Statements
pub mod TokenKinds
pub mod Written
