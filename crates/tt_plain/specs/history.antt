-- Histories: each entry after those before it.
pub mod Complete
pub mod Contents
pub mod Replay
pub mod Replies
pub mod Step
pub mod TrueFacts
