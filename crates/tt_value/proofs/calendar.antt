pub mod Dates
pub mod DayNumbers
pub mod Timestamps
