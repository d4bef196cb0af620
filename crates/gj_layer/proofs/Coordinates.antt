-- Positions and paths that are read.
pub mod PositionElements
pub mod Runs
pub mod PathsSoFar
pub mod ReadPaths
pub mod ReadHeights
