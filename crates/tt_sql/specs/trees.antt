-- Which trees the grammar gives.
pub mod Expressions
pub mod Leaves
pub mod Lists
pub mod Queries
pub mod Statements
