-- The files of lemmas of meet_rel.
mod Boxes
pub mod Alike
pub mod Exclusive
pub mod Scale
mod Spans
mod Axes
mod Crossings
mod TurnTests
pub mod Ways
mod EqualSegments
pub mod ClipEnds
mod ClipPoints
mod ByCuts
mod LinePoints
mod WaySlices
pub mod PieceClips
pub mod PieceRelations
mod CommonSides
mod WholeClips
