-- The files of definitions of tin_index, and those of lower crates that its clauses cite.
pub use Rattle.plane_base.specs.Boxes as PlaneBaseBoxes
pub use Rattle.plane_base.specs.Plane
pub use Rattle.number_groups.specs.Groups
pub use Rattle.cell_grid.specs.Boxes as CellGridBoxes
pub use Rattle.tin_base.specs.Images
pub use Rattle.tin_base.specs.Soundness
pub use Rattle.tin_base.specs.Triangulation
pub mod Boxes
pub mod Sides
pub mod Stars
pub mod IndexFields
pub mod InsideLocations
pub mod InsideSides
