pub mod again
pub mod places
pub mod text
