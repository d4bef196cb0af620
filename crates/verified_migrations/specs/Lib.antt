-- The files of definitions of verified_migrations, and those of lower crates that its laws cite.
pub use Rattle.shelf_io.specs.Files
pub use Rattle.tin_base.specs.Triangulation
pub use Rattle.tin_base.specs.Limits
pub use Rattle.tin_base.specs.Soundness
pub use Rattle.sheet_base.specs.Sheets
pub use Rattle.sheet_base.specs.ImageFits
pub use Rattle.sheet_base.specs.Splices
pub use Rattle.sheet_pieces.specs.SheetPieces
pub use Rattle.sheet_pieces.specs.SheetImages
pub use Rattle.cert_check.specs.Certificates
pub use Rattle.cert_check.specs.PieceLists
pub use Rattle.cert_check.specs.Checks
pub use Rattle.job_words.specs.Formats
pub use Rattle.runs.specs.Output
pub use Rattle.migrate_mode.specs.Names
pub use Rattle.migrate_mode.specs.Migrations
pub use Rattle.migrate_mode.specs.Laws as MigrationLaws
pub use Rattle.verify_mode.specs.Files as VerifiedFiles
pub use Rattle.verify_mode.specs.Verifications
pub mod Receivers
pub mod Laws
