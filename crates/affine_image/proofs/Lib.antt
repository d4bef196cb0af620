-- The files of lemmas of affine_image.
pub mod HalfUp
mod Sizes
pub mod Near
mod WeightedImages
mod CornerSegments
pub mod Reach
pub mod RoundedImages
pub mod PlaceImages
mod SideCrossings
mod StepEnds
pub mod HeightLemmas
