-- The contents of the parts form the bags of the store: what is so of both, and how an effect keeps it.
pub mod Added
pub mod After
pub mod Backed
pub mod Balance
pub mod Contents
pub mod Cuts
pub mod Known
pub mod Moved
pub mod Numbers
pub mod Places
pub mod Quiet
pub mod Step
pub mod Sums
pub mod Views
