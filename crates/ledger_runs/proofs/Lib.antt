-- The files of lemmas of ledger_runs.
mod LineSplits
mod EntryRuns
mod MissingFiles
mod RunEnds
mod HandedOut
mod LimitLines
mod GivenBytes
mod Preparing
