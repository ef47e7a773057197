pub mod ValueFolds
pub mod Values
