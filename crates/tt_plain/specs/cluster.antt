-- How the parts of a table lie over its keys: depth, pick, rebuild and width.
pub mod Depth
pub mod Ranges
pub mod Rebuild
pub mod Wanted
pub mod Width
