-- The files of definitions of ledger_remarks.
pub mod RemarkLines
