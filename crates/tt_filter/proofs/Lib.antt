pub mod Decodes
pub mod Lists
pub mod Merging
pub mod Operands
pub mod Walking
