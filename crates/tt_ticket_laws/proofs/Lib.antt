pub mod Answered
pub mod Inserted
pub mod Pinned
pub mod Read
pub mod Replaced
pub mod Targets
pub mod Updated
