-- The files of lemmas of carry_map.
mod ErrorExits
mod StepPieces
mod StepHeights
mod VertexLists
mod LayerStops
mod PathSteps
mod SheetSteps
mod ImageSegments
mod Outcomes
mod LayerEnds
mod OnePieces
mod PlacedSheets
pub mod FirstFaults
pub mod OneEnd
