pub mod asked
pub mod determined
pub mod grammar
pub mod machine
pub mod marks
pub mod meaning
pub mod text
pub mod trees
