-- Groups of points, and those that may have changes of a ring.
pub mod Spots
pub mod GroupSpots
pub mod Candidates
pub mod ClusterLemmas
pub mod OrderLemmas
pub mod Sifted
