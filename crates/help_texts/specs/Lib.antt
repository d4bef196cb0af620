-- The files of definitions of help_texts.
pub mod Help
