-- On which side of a ring a point is, by the sides of the ring's segments.
pub mod Crossings
pub mod SideParts
pub mod Sweeps
pub mod Nearness
pub mod OnSegments
pub mod OwnPoints
