pub mod IntBody
pub mod IntReading
pub mod IntNumber
