-- The files of lemmas of cell_grid.
mod Finds
mod Spans
mod Stripes
mod Indices
mod Sizes
mod Places
mod OffsetBoxes
mod LevelFinds
mod Tells
mod Windows
mod Enters
mod Keeps
mod Collects
mod LevelEntries
mod LevelFields
mod UsedLevels
mod LevelPlaces
