-- Turns, mixes, weights and parameters of points.
pub mod Points
pub mod Turns
pub mod Mixes
pub mod Parameters
pub mod Proportions
pub mod Along
pub mod Image
pub mod TwoWeights
