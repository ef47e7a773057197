pub mod Retention
pub mod Horizon
pub mod Steps
