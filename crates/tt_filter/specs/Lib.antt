pub mod Decoded
pub mod Givens
pub mod Parts
pub mod RowTruths
pub mod Sides
