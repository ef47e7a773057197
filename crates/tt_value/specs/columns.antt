pub mod Body
pub mod Packing
pub mod Reading
pub mod Steps
