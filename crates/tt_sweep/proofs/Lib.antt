pub mod Spans
pub mod Claiming
pub mod Holding
pub mod Finding
