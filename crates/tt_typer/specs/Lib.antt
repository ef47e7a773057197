pub mod Finds
pub mod FoundParts
pub mod LentSchemas
pub mod TableScopes
