-- A run has one outcome.
mod WordsOfPlaces
mod SideOutcomes
pub mod OneSpot
pub mod PieceOrder
pub mod OneOutcome
pub mod RunEnds
pub mod SomeOutcome
