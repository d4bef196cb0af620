-- The files of lemmas of migrate_mode.
pub mod PairChanges
mod MakerRows
mod MakerExamples
mod OneOutcome
mod LayerRefusals
pub mod ComparablePieces
mod CertNames
mod LayerLists
pub mod RunSheets
pub mod OneSides
pub mod OneLayers
mod OneMigration
mod SomeLayers
pub mod SomeMigration
pub mod MigrationSteps
pub mod LayerCauses
pub mod MakerSteps
pub mod KeptMigrations
