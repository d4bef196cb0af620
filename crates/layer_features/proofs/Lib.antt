-- The files of lemmas of layer_features.
mod Found
mod Elements
mod InOrder
mod OneList
pub mod DrawingLines
pub mod CopiedParts
