pub mod Faults
pub mod FrameLaws
pub mod Lengths
pub mod RowsAgain
pub mod RowsTaken
