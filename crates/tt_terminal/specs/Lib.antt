pub mod Fronts
pub mod KindNumbers
pub mod Optional
pub mod Pairs
pub mod Readers
pub mod Reading
