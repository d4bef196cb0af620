-- The files of definitions of affine_image, and those of lower crates that its clauses cite.
pub use Rattle.frac128.specs.Rounding
pub use Rattle.frac128.specs.Sizes
pub use Rattle.plane_base.specs.Plane
pub use Rattle.plane_base.specs.Slices
pub use Rattle.plane_base.specs.TwoWeights
pub use Rattle.tin_base.specs.Images
pub use Rattle.tin_base.specs.Limits
pub use Rattle.tin_base.specs.Segments
pub use Rattle.tin_base.specs.Slices as TinBaseSlices
pub use Rattle.tin_base.specs.Soundness
pub use Rattle.tin_base.specs.Triangulation
pub mod RoundedImages
pub mod Cuts
pub mod Laws
pub mod Heights
pub mod InsideWeights
pub mod InsideSides
