-- The order of a program that runs alone, and where it ends.
pub mod Order
pub mod Settled
pub mod Walk
