-- The lemmas of tin_file, in folders by subject.
mod DocumentValues
mod FileRows
mod VerticalComponent
mod FirstFaults
pub mod CallerLemmas
