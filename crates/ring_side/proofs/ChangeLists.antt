-- The changes of a ring, of a layer and of all layers.
pub mod OnWay
pub mod RingFacts
pub mod NoChanges
pub mod RingPoints
pub mod RingChanges
pub mod LooksNear
pub mod LayerChanges
pub mod Differing
