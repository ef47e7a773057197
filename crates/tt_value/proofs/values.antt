pub mod Bags
pub mod RowText
pub mod Texts
pub mod Ties
