-- The sheet of a layer: it is one, its edits are in order, and its points are no more than bytes.
pub mod Sheets
pub mod EditOrder
pub mod OneSheet
pub mod ReadSheets
