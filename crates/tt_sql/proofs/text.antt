-- The statement of a text.
pub mod StatementOf
