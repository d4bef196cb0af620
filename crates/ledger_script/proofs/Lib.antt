-- The files of lemmas of ledger_script.
mod FieldSplits
mod LineReadings
