pub mod TextBody
pub mod TextNumber
pub mod TextReading
