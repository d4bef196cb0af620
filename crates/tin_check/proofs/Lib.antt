-- The lemmas of tin_check, in folders by subject.
mod TriangleTests
pub mod PairFits
mod BorderLemmas
pub mod CallerLemmas
mod Outcomes
