-- Each kind of entry, and each definition, has a sound effect.
pub mod Commits
pub mod Defines
pub mod Definitions
pub mod Ends
pub mod Entries
pub mod Makes
pub mod Renames
pub mod Rounds
pub mod SessionAlone
pub mod Starts
