-- What a statement asks for.
pub mod Request
