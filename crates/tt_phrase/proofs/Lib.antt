pub mod Alike
pub mod Factors
pub mod GivenTrees
pub mod Instants
pub mod ItemReads
pub mod Lists
pub mod Operands
pub mod SelectReads
