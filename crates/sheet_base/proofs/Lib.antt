-- The files of lemmas of sheet_base.
pub mod ListParts
pub mod SpliceLaws
pub mod RingLemmas
pub mod WrittenLayers
pub mod Swaps
pub mod ImageRuns
pub mod PositionLists
pub mod HeightLists
pub mod DrawnPaths
pub mod HandedOn
pub mod ImageTexts
pub mod MemoryFaults
pub mod TiledPaths
