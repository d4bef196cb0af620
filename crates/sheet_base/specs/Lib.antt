-- The files of definitions of sheet_base, and those of lower crates that its clauses cite.
pub use Rattle.mm_decimal.specs.MetresTexts
pub mod PointHeights
pub mod Sheets
pub mod Segments
pub mod Rings
pub mod ImageFits
pub mod SheetFields
pub mod ImageFields
pub mod EditStarts
pub mod Splices
pub mod ReadBack
pub mod ReadSheets
pub mod Outcomes
pub mod Faults
pub mod ImageLists
