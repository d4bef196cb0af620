-- The files of definitions of layer_features, and those of lower crates that its clauses cite.
pub use Rattle.jtext.specs.Characters
pub use Rattle.jtext.specs.Lookups
pub use Rattle.jtext.specs.Nodes
pub use Rattle.jtext.specs.Places
pub use Rattle.jtext.specs.Texts
pub use Rattle.jtext.specs.Values
pub use Rattle.dxf_pairs.specs.Groups
pub use Rattle.dxf_pairs.specs.Pairs
pub use Rattle.dxf_entities.specs.Entities
pub use Rattle.dxf_entities.specs.Fields
pub mod Features
pub mod JsonFeatures
pub mod DrawingFeatures
pub mod Laws
pub mod InsideNodes
