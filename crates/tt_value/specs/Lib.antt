pub mod calendar
pub mod columns
pub mod trees
pub mod values
