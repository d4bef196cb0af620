-- The files of definitions of ledger_script.
pub mod ScriptText
pub mod InsideLineKinds
