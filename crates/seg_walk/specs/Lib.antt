-- The files of definitions of seg_walk, and those of lower crates that its clauses cite.
pub use Rattle.tin_base.specs.Outcomes
pub use Rattle.tin_base.specs.Segments
pub use Rattle.tin_base.specs.Slices
pub use Rattle.tin_base.specs.Triangulation
pub mod Steps
pub mod InsideStarts
pub mod InsideExits
pub mod InsidePointWays
