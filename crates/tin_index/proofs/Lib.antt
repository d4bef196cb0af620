-- The files of lemmas of tin_index.
pub mod InBox
mod SourceBoxes
mod Round
mod Least
pub mod Corners
mod TriangleStars
mod Across
mod Inside
