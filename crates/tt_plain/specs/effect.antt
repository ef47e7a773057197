-- What an entry does, as a value, and how it is applied: one file for each kind of entry.
pub mod Abandon
pub mod Apply
pub mod Begin
pub mod Commit
pub mod Define
pub mod Effect
pub mod End
pub mod Ending
pub mod Landing
pub mod Miss
pub mod Purge
pub mod Report
pub mod Rollback
pub mod Round
pub mod RoundStart
pub mod Start
pub mod Wait
