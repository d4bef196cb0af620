-- Where the paths of layers begin, in each format.
pub mod LayerPlaces
mod PathEdits
pub mod PathSpots
pub mod PathWords
mod WktPaths
mod GeoJsonPaths
mod DrawingPaths
mod KnownSides
pub mod KnownRings
