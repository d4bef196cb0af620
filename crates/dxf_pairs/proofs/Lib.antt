-- The files of lemmas of dxf_pairs.
mod PairSteps
pub mod PairTiles
mod LinePlaces
pub mod Between
mod LineLists
mod InLines
mod PlainCodes
