-- The files of definitions of ledger_core.
pub mod Kept
pub mod Causes
pub mod Replies
pub mod Histories
pub mod Laws
pub mod MemoryKeeper
pub mod MemoryKeeperFields
pub mod MemoryRuns
pub mod MemoryRunsFields
