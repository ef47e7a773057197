pub mod Calendar
pub mod Reading
