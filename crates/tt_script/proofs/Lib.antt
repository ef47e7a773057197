pub mod Cuts
pub mod Edges
pub mod Makeup
pub mod Programs
pub mod Texts
pub mod Words
