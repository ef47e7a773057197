pub mod Entries
pub mod KeptRows
pub mod Projection
pub mod Refusals
