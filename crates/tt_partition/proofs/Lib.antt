mod Faults
pub mod Places
pub mod TableLaws
pub mod ColumnsTaken
pub mod ColumnsAgain
pub mod ImageLaws
pub mod Picks
pub mod ColumnPlaces
pub mod Cutting
pub mod PickingLaws
pub mod FittingLaws
