-- The files of lemmas of dxf_copies.
mod CopyLists
pub mod Numbers
pub mod HandleCounts
pub mod SplicedPairs
pub mod CopyTurns
pub mod ValueTurns
pub mod WholeTurns
pub mod GroupDrawings
pub mod EntityPlaces
pub mod LightVertices
