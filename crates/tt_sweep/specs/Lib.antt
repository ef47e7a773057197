pub mod Claims
pub mod Doomed
