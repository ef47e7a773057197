-- What is asked of the store: a session's statement, its request, and what is carried out so far.
pub mod Asked
pub mod Carried
pub mod Event
pub mod Reach
pub mod Request
pub mod Turns
