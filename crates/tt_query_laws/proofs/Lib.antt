pub mod Bags
pub mod Best
pub mod Changes
pub mod Groups
pub mod Items
pub mod Rearranged
pub mod Sorting
