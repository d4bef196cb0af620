-- The files of definitions of tin_height, and those of lower crates that its clauses cite.
pub use Rattle.frac128.specs.Rounding
pub use Rattle.mm_decimal.specs.MetresTexts
pub use Rattle.plane_base.specs.Plane
pub use Rattle.tin_base.specs.Images
pub use Rattle.tin_base.specs.Soundness
pub use Rattle.tin_base.specs.Triangulation
pub use Rattle.affine_image.specs.RoundedImages
pub mod Offsets
pub mod Points
pub mod PointTexts
pub mod Raises
pub mod InsideOffsets
