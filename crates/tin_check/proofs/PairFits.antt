-- Which two triangles fit together.
pub mod InBoxes
pub mod Apart
pub mod BySides
pub mod ByCorner
pub mod ByNumbers
pub mod Partners
pub mod FitOrNot
