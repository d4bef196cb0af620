-- The part of a segment that a triangle has.
pub mod Parts
pub mod Slices
pub mod PartEnds
