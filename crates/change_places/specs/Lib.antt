-- The files of definitions of change_places, and those of lower crates that its clauses cite.
pub use Rattle.mm_decimal.specs.MetresTexts
pub use Rattle.jtext.specs.Characters
pub use Rattle.jtext.specs.Texts
pub use Rattle.jtext.specs.Values
pub use Rattle.sheet_base.specs.Sheets
pub use Rattle.sheet_base.specs.EditStarts
pub use Rattle.sheet_base.specs.Splices
pub use Rattle.report_text.specs.ReportText
pub use Rattle.report_text.specs.Reports
pub use Rattle.layer_features.specs.DrawingFeatures
pub use Rattle.layer_features.specs.Laws as LayerFeaturesLaws
pub mod Words
pub mod PlacesText
pub mod PlacesValue
pub mod Laws
pub mod PathPlaces
pub mod InsidePlaces
