pub mod Sorting
pub mod KeyOrder
