-- The files of definitions of ledger_runs.
pub mod Status
pub mod Refusals
pub mod Causes
pub mod Words
pub mod Lines
pub mod Entries
pub mod ReplyText
pub mod Outcome
pub mod MissingFiles
pub mod Ends
pub mod HandedOut
pub mod InsideSteps
pub mod InsideEntries
pub mod InsideRuns
