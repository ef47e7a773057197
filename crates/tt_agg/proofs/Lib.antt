pub mod Grouping
pub mod Left
pub mod Parts
