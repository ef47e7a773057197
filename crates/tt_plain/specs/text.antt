-- The transcript, to the byte.
pub mod Journal
pub mod RefusalTable
pub mod Replies
pub mod Transcript
