-- The facts of parts: layouts, what is pending and pinned, and what is named.
pub mod Changes
pub mod Facts
pub mod Layouts
pub mod Parts
pub mod Pending
pub mod Pins
