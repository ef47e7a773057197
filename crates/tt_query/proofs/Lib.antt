pub mod RowCounts
pub mod OneTable
pub mod Printable
pub mod Whole
