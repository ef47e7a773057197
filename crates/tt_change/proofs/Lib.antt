pub mod FittingRows
pub mod NoneMissing
pub mod PutIn
pub mod TupleCells
pub mod Written
