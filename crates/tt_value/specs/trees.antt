pub mod Expressions
pub mod Predicates
pub mod Scope
pub mod Truths
