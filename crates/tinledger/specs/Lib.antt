-- The files of definitions of tinledger.
pub mod Help
