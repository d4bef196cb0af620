-- The files of definitions of cell_grid, and those of lower crates that its clauses cite.
pub use Rattle.number_groups.specs.Groups
pub use Rattle.plane_base.specs.Boxes as PlaneBaseBoxes
pub mod Boxes
pub mod Grids
pub mod Partners
pub mod Around
pub mod Stripes
pub mod Cells
pub mod LevelLists
pub mod GridFields
pub mod InsideSizes
pub mod InsideOffsets
pub mod InsideOffsetLists
pub mod InsideBlocks
pub mod InsideEntries
pub mod InsideSearches
pub mod InsideLevelPartners
pub mod InsideWindows
