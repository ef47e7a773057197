pub mod Chronicle
pub mod Held
pub mod Keeps
pub mod Kept
pub mod Moves
pub mod Owed
