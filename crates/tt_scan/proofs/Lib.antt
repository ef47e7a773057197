pub mod Choices
pub mod Columns
pub mod Counts
pub mod Names
pub mod Prunes
pub mod Scans
