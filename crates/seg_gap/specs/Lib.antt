-- The files of definitions of seg_gap, and those of lower crates that its clauses cite.
pub use Rattle.plane_base.specs.Laws as PlaneBaseLaws
pub use Rattle.plane_base.specs.Plane
pub mod Gaps
pub mod Ends
pub mod Laws
pub mod InsideEnds
pub mod InsideSquares
