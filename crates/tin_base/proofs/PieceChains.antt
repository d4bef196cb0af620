-- The pieces of a segment, one after another.
pub mod WaySteps
pub mod Overlap
pub mod Further
pub mod Chain
pub mod Apart
pub mod Walk
pub mod UnusedTriangles
pub mod Outcomes
