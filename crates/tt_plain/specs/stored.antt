-- What the store has: tables, names, sessions and points.
pub mod Empty
pub mod Names
pub mod Points
pub mod Sessions
pub mod Tables
