-- What queries and changes mean.
pub mod Examples
