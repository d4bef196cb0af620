-- The files of lemmas of dxf_entities.
pub mod Lists
pub mod Vertices
pub mod ReadSizes
mod Light
pub mod HandedFaults
pub mod NoPairs
pub mod Members
pub mod WholeShapes
pub mod EntityEdits
pub mod Sections
pub mod Fronts
pub mod SectionSeeds
pub mod GroupShapes
pub mod OutlineEnds
pub mod WrittenGroups
pub mod ChangedFields
