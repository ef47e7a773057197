-- The words and the text of statements.
pub mod Expressions
pub mod Joining
pub mod Predicates
pub mod Spacing
