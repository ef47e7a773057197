pub mod Counting
pub mod Faults
pub mod Lengths
pub mod RowsAgain
pub mod RowsTaken
pub mod TextLaws
pub mod TextTests
