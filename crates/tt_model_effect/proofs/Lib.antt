pub mod Steps
pub mod Takings
