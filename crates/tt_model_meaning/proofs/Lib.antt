pub mod OneTable
pub mod TruthSteps
pub mod Walks
