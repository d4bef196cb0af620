-- Boxes round the parts of a ring, and points in a box that the ring is apart from.
pub mod InBoxes
pub mod RingParts
pub mod RingNodes
pub mod Boxed
pub mod BoxSides
pub mod ClearNodes
pub mod Corners
