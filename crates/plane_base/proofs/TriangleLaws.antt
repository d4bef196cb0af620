-- Points in a triangle, and common points of triangles and segments.
pub mod Intervals
pub mod InTriangle
mod Exit
pub mod CommonPoints
pub mod LeftOfSide
mod NearSide
