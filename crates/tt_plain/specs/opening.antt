-- What a statement sees when it begins, and the marks that it puts.
pub mod Marks
pub mod Opened
pub mod Point
pub mod Seen
