-- The files of definitions of whole_runs, and those of lower crates that its clauses cite.
pub use Rattle.shelf_io.specs.Count
pub use Rattle.shelf_io.specs.Files
pub use Rattle.shelf_io.specs.FileStore
pub use Rattle.shelf_io.specs.Load
pub use Rattle.shelf_io.specs.ReservedPress
pub use Rattle.job_words.specs.Jobs as JobWordsJobs
pub use Rattle.report_text.specs.Reports
pub use Rattle.report_text.specs.ReportText
pub use Rattle.runs.specs.Causes
pub use Rattle.runs.specs.Counts
pub use Rattle.runs.specs.Refusals
pub use Rattle.runs.specs.Triangulations
pub use Rattle.publication.specs.Fronts
pub use Rattle.publication.specs.RunEnds as PublicationRunEnds
pub use Rattle.publication.specs.Rooms
pub use Rattle.migrate_mode.specs.KeptRelations
pub use Rattle.migrate_mode.specs.Maker
pub use Rattle.migrate_mode.specs.Migrations
pub use Rattle.check_mode.specs.Checks
pub use Rattle.verify_mode.specs.Files as VerifyModeFiles
pub use Rattle.verify_mode.specs.Verifications
pub use Rattle.height_mode.specs.Heights
pub mod Jobs
pub mod Outcome
pub mod Ends
pub mod RunEnds
pub mod HandedOut
pub mod SureRuns
pub mod Laws
