pub mod Bags
pub mod Order
pub mod RowText
pub mod Texts
pub mod TotalOrder
