-- The files of definitions of report_text, and those of lower crates that its clauses cite.
pub use Rattle.text_places.specs.Places
pub use Rattle.text_fields.specs.Fields
pub use Rattle.ring_side.specs.Differences
pub mod Reports
pub mod ReportText
pub mod Beginnings
pub mod ReportFields
pub mod Laws
pub mod InsideFields
pub mod InsideLineKinds
pub mod InsideSideKinds
pub mod InsideSteps
