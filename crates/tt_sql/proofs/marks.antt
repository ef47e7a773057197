-- What a derivation notes of a tree.
pub mod Expressions
