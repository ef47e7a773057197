pub mod Chosen
pub mod Held
