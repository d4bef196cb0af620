-- The files of lemmas of ledger_core.
mod OpenPairs
mod Verdicts
mod Ledgers
mod HistorySteps
mod HistoryLists
mod ClearRuns
mod AcceptedCommands
mod EnteredRuns
mod UndecidedRows
mod RunRows
mod RunLists
mod RunSeals
mod CommandReplies
