-- The files of definitions of run_notes, and those of lower crates that its clauses cite.
pub use Rattle.remarks.specs.LineColumns
pub use Rattle.sheet_base.specs.EditStarts
pub use Rattle.sheet_base.specs.Sheets
pub use Rattle.job_words.specs.Formats
pub use Rattle.job_words.specs.Jobs
pub mod JobWork
pub mod Substitutes
pub mod LayersAgain
pub mod LeftOutKinds
pub mod InsideCounts
pub mod InsideStrays
pub mod WordForms
pub mod WordUses
pub mod WordFlaws
pub mod InsideWordFlaws
pub mod FaultLines
