-- The grammar of statements, and what it derives.
pub mod Carries
pub mod Derivations
pub mod Examples
pub mod Expressions
pub mod Faults
pub mod Fronts
pub mod LexemeTexts
pub mod Lexemes
pub mod Predicates
pub mod Queries
pub mod Quotes
pub mod Statements
