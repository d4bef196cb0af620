-- The files of lemmas of topo_check.
mod RoundedRelations
mod Cases
mod Collects
mod Images
mod InBoxes
mod InOrder
mod KindNumbers
mod OfKinds
pub mod OneList
mod PairOrder
mod Passes
mod PieceCopies
mod WholeParts
mod Sorts
mod Spans
mod Tight
mod SegmentRelations
mod SomeChanges
