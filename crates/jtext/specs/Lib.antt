-- The files of definitions of jtext, and those of lower crates that its clauses cite.
pub use Rattle.text_places.specs.Places as TextPlacesPlaces
pub mod Numbers
pub mod Characters
pub mod Values
pub mod Nodes
pub mod Texts
pub mod Places
pub mod Lookups
pub mod InsideSigns
pub mod InsideTokens
pub mod InsideStates
pub mod InsideUnits
