-- The files of definitions of topo_check, and those of lower crates that its clauses cite.
pub use Rattle.plane_base.specs.Plane
pub use Rattle.tin_base.specs.Pieces
pub use Rattle.tin_base.specs.Relations
pub use Rattle.tin_base.specs.Segments
pub use Rattle.tin_base.specs.Soundness
pub use Rattle.tin_base.specs.Triangulation
pub use Rattle.meet_rel.specs.Laws as MeetRelLaws
pub use Rattle.meet_rel.specs.Near
pub mod Changes
pub mod Laws
pub mod InsideBoxes
pub mod InsideImages
pub mod InsidePairs
pub mod InsideKinds
pub mod InsideShares
