-- Marks and trees without their places.
pub mod Marks
pub mod Trees
