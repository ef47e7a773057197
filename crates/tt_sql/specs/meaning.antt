-- What queries and changes mean.
pub mod Changes
pub mod Examples
pub mod Queries
pub mod Scopes
