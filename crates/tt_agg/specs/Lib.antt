pub mod Lent
pub mod Selected
pub mod Groups
