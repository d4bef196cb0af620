-- Rows of vertices and triangles, one after another.
pub mod NamedPlaces
pub mod NumberRows
pub mod RowElements
pub mod CornerKeys
pub mod RowSteps
pub mod RowLists
pub mod DigitTexts
pub mod PlacedRows
pub mod ElementChanges
pub mod NearCorners
pub mod FoundRows
