-- The files of definitions of shown_text.
pub mod Characters
pub mod Texts
pub mod Laws
