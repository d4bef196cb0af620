-- Rows and files with a vertical component.
pub mod TallColumnPlaces
pub mod TallRows
pub mod TallElements
pub mod TallSteps
pub mod TallWhole
pub mod TallOffsets
