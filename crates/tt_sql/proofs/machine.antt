-- The machine that reads statements, and the trees that it reads.
pub mod Complete
pub mod Decisions
pub mod ExpressionTrees
pub mod Items
pub mod PredicateTrees
pub mod QueryTrees
pub mod Runs
pub mod Selects
pub mod Sound
pub mod StatementTrees
pub mod Statements
pub mod Steps
pub mod Table
