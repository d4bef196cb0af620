-- The files of lemmas of publication.
pub mod Fronts
pub mod LimitFronts
pub mod RunEnds
mod Rooms
