-- The rows of reports.
pub mod Depth
pub mod Explain
pub mod Metrics
pub mod Rows
pub mod Show
pub mod Values
