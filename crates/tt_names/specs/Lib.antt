pub mod ByName
pub mod Changes
pub mod Registry
pub mod RegistryCode
