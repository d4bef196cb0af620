-- The files of definitions of remarks, and those of lower crates that its clauses cite.
pub use Rattle.mm_decimal.specs.MetresTexts
pub mod LineColumns
pub mod Excerpts
pub mod LayerTables
pub mod Sights
pub mod TinTables
pub mod RefusalTables
pub mod Spots
pub mod Remarks
pub mod StrayLines
pub mod FileLines
pub mod FlawLines
pub mod CornerLines
