-- What each definition changes: one file for each kind, or for a few short ones together.
pub mod Alter
pub mod Changes
pub mod Clone
pub mod Clustering
pub mod Create
pub mod Drop
pub mod Rename
pub mod SetRetention
pub mod Swap
pub mod Truncate
pub mod Undrop
