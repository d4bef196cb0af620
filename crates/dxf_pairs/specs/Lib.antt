-- The files of definitions of dxf_pairs, and those of lower crates that its clauses cite.
pub use Rattle.text_places.specs.Blanks
pub mod Lines
pub mod Values
pub mod Codes
pub mod Pairs
pub mod Groups
pub mod Laws
pub mod CodeLines
pub mod InLines
pub mod InsidePlainCodes
