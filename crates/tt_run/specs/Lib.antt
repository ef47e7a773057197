pub mod Failures
pub mod Outcomes
pub mod Requests
pub mod Sessions
pub mod Started
pub mod Top
pub mod Turns
pub mod Words
