-- The machine that reads statements, and the trees that it reads.
pub mod ExpressionTrees
pub mod Factored
pub mod Machine
pub mod PredicateTrees
pub mod QueryTrees
pub mod Reading
pub mod StatementTrees
