pub mod Created
pub mod Defined
pub mod Lookups
