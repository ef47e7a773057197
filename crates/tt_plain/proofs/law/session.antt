-- What a session sees and marks, and effects of one session.
pub mod Alone
pub mod Marks
pub mod Versions
pub mod Views
