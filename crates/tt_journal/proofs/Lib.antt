pub mod Answered
pub mod Contents
pub mod Endings
pub mod Own
pub mod TranscriptLaws
