pub mod Days
pub mod Fractions
pub mod Functions
pub mod Moments
pub mod Spelling
