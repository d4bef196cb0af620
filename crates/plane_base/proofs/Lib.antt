-- The lemmas of plane_base, in folders by subject.
pub mod MixLaws
pub mod TriangleLaws
mod CommonParts
pub mod Bounds
