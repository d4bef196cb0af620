-- The files of definitions of text_fields.
pub use Rattle.text_places.specs.Digits
pub mod Fields
