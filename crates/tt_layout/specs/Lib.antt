pub mod Numbers
pub mod Chain
pub mod Spans
pub mod Holds
pub mod Owners
pub mod WorkedFacts
