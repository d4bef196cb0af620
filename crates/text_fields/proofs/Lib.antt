-- The files of lemmas of text_fields.
pub mod StepChains
pub mod Words
mod Numbers
pub mod FieldLaws
