pub mod RegimesInOrder
pub mod Limits
pub mod HorizonLaws
pub mod StepLaws
