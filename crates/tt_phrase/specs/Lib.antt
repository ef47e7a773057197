pub mod Factors
pub mod Items
pub mod Moments
pub mod Predicates
pub mod QueryEnds
pub mod Selects
