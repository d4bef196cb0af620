-- The lemmas of jtext, in folders by subject.
mod Grammar
mod CodeReads
pub mod CallerLemmas
