-- The lemma files of tin_height.
mod OffsetLemmas
mod MixedOffsets
mod PlacedRows
mod Raising
mod RaisedLaws
pub mod PointsRead
mod LineEnds
mod PointLines
