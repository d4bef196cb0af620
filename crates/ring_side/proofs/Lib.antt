-- The lemmas of ring_side, in folders by subject.
mod PointSides
mod RingBoxes
mod PointGroups
mod ChangeLists
pub mod SideMembers
