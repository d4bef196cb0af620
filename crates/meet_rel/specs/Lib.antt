-- The files of definitions of meet_rel, and those of lower crates that its clauses cite.
pub use Rattle.frac128.specs.Fractions
pub use Rattle.plane_base.specs.Plane
pub use Rattle.plane_base.specs.Slices
pub use Rattle.tin_base.specs.Images
pub use Rattle.tin_base.specs.Pieces
pub use Rattle.tin_base.specs.Relations
pub use Rattle.tin_base.specs.Segments
pub use Rattle.tin_base.specs.Soundness
pub use Rattle.tin_base.specs.Triangulation
pub mod Near
pub mod Signs
pub mod Laws
pub mod Clips
