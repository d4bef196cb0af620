-- The spots of a segment: its slices by triangles, and their parts.
pub mod Ends
pub mod Spots
pub mod Parts
pub mod SegmentSlices
pub mod Params
pub mod SlicedParts
