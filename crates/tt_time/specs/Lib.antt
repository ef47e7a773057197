pub mod Readings
pub mod Tails
