pub mod Bags
pub mod Guarded
