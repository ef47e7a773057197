pub mod Holders
pub mod AllHolders
pub mod Owned
pub mod Rows
