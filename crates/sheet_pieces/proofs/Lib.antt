-- The files of lemmas of sheet_pieces.
pub mod PartSequences
pub mod PieceParts
pub mod SheetImages
pub mod PairedHeights
pub mod SomeImages
pub mod SinglePieces
pub mod OneCut
pub mod PathSegments
mod SegmentImages
pub mod PathVertices
pub mod SheetPaths
pub mod Runs
pub mod PlaneRuns
pub mod SpotHeights
mod RunHeights
pub mod OneHeight
pub mod RunReach
pub mod OneSheet
pub mod SegmentCounts
