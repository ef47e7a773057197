pub mod calendar
pub mod columns
pub mod values
