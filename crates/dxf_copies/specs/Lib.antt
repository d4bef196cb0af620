-- The files of definitions of dxf_copies, and those of lower crates that its clauses cite.
pub use Rattle.mm_decimal.specs.MetresTexts
pub use Rattle.sheet_base.specs.ImageFits
pub use Rattle.sheet_base.specs.PointHeights
pub use Rattle.sheet_base.specs.ReadBack
pub use Rattle.sheet_base.specs.Segments
pub use Rattle.sheet_base.specs.Sheets
pub use Rattle.sheet_base.specs.Splices
pub use Rattle.dxf_pairs.specs.Groups
pub use Rattle.dxf_pairs.specs.Lines
pub use Rattle.dxf_pairs.specs.Pairs
pub use Rattle.dxf_entities.specs.Entities
pub use Rattle.dxf_entities.specs.Fields
pub use Rattle.dxf_entities.specs.Seeds
pub mod Rendering
pub mod LevelEnds
pub mod PairGroups
pub mod PageViews
