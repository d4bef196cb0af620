-- The files of definitions of verify_mode, and those of lower crates that its clauses cite.
pub use Rattle.shelf_io.specs.Count
pub use Rattle.shelf_io.specs.Files as ShelfIoFiles
pub use Rattle.shelf_io.specs.Load
pub use Rattle.tin_base.specs.Triangulation
pub use Rattle.sheet_base.specs.ImageFits
pub use Rattle.sheet_base.specs.Sheets
pub use Rattle.cert_check.specs.Checks
pub use Rattle.job_words.specs.Formats
pub use Rattle.job_words.specs.JobFields
pub use Rattle.layer_formats.specs.LayerOutcomes
pub use Rattle.layer_formats.specs.LayerTexts
pub use Rattle.runs.specs.Causes
pub use Rattle.runs.specs.Counts
pub use Rattle.runs.specs.Loads
pub use Rattle.runs.specs.Output
pub use Rattle.runs.specs.Status
pub use Rattle.runs.specs.Triangulations
pub mod Files
pub mod Certificates
pub mod Verifications
pub mod Laws
