pub mod Days
pub mod Extremes
pub mod Possible
pub mod Sides
pub mod TruthSets
pub mod Zones
