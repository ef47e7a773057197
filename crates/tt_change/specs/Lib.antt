pub mod Accepted
pub mod Builds
pub mod Cells
