-- Each entry keeps the guards of all sessions.
pub mod Among
pub mod Defines
pub mod Ends
pub mod Entries
pub mod Grown
pub mod Histories
pub mod Kept
pub mod Removed
pub mod Sessions
pub mod Starts
