-- The files of definitions of place_runs, and those of lower crates that its clauses cite.
pub use Rattle.shelf_io.specs.Count
pub use Rattle.shelf_io.specs.Files
pub use Rattle.seg_gap.specs.Gaps
pub use Rattle.seg_gap.specs.Ends as SegGapEnds
pub use Rattle.jtext.specs.Texts
pub use Rattle.tin_base.specs.Triangulation
pub use Rattle.sheet_base.specs.Sheets
pub use Rattle.ring_side.specs.SideChanges
pub use Rattle.change_places.specs.PathPlaces
pub use Rattle.change_places.specs.PlacesText
pub use Rattle.change_places.specs.Words as ChangePlacesWords
pub use Rattle.layer_features.specs.JsonFeatures
pub use Rattle.layer_features.specs.DrawingFeatures
pub use Rattle.layer_features.specs.Features
pub use Rattle.change_places.specs.Laws as ChangePlacesLaws
pub use Rattle.job_words.specs.Formats
pub use Rattle.job_words.specs.Jobs
pub use Rattle.layer_formats.specs.LayerOutcomes
pub use Rattle.layer_formats.specs.LayerTexts
pub use Rattle.runs.specs.Causes
pub use Rattle.runs.specs.Counts
pub use Rattle.runs.specs.Refusals
pub use Rattle.publication.specs.Fronts
pub use Rattle.publication.specs.RunEnds
pub use Rattle.migrate_mode.specs.LayerRuns
pub use Rattle.migrate_mode.specs.Migrations
pub use Rattle.migrate_mode.specs.RunChanges
pub use Rattle.migrate_mode.specs.SideLists
pub mod Words
pub mod WrittenPaths
pub mod SidePlaces
pub mod Places
pub mod Outcome
pub mod Ends
pub mod HandedOut
pub mod Laws
pub mod InsideLayers
pub mod InsidePieces
pub mod InsideSides
pub mod InsideMaps
