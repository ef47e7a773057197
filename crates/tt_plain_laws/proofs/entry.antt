-- Each kind of entry keeps the bags.
pub mod Changes
pub mod Commits
pub mod Defines
pub mod Ends
pub mod Entries
pub mod Histories
pub mod Landing
pub mod Sessions
pub mod Starts
