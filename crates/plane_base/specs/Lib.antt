-- The files of definitions of plane_base, and those of lower crates that its clauses cite.
pub use Rattle.frac128.specs.Fractions
pub use Rattle.frac128.specs.Sizes
pub mod Plane
pub mod Slices
pub mod Boxes
pub mod TwoWeights
pub mod Laws
pub mod InsideCourses
pub mod InsideSides
