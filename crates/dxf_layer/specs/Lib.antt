-- The files of definitions of dxf_layer, and those of lower crates that its clauses cite; of those that begin with
-- Inside only private functions speak.
pub use Rattle.sheet_base.specs.ImageFits
pub use Rattle.sheet_base.specs.PointHeights
pub use Rattle.sheet_base.specs.ReadBack as SheetBaseReadBack
pub use Rattle.sheet_base.specs.ReadSheets
pub use Rattle.sheet_base.specs.Sheets
pub use Rattle.sheet_base.specs.Splices
pub use Rattle.dxf_pairs.specs.Groups
pub use Rattle.dxf_pairs.specs.Pairs
pub use Rattle.dxf_entities.specs.Entities
pub use Rattle.dxf_entities.specs.Fields
pub use Rattle.dxf_entities.specs.Items
pub use Rattle.dxf_entities.specs.Kinds
pub use Rattle.dxf_entities.specs.Polylines
pub use Rattle.dxf_entities.specs.Seeds
pub use Rattle.dxf_entities.specs.Shapes
pub use Rattle.dxf_copies.specs.LevelEnds
pub use Rattle.dxf_copies.specs.PairGroups
pub use Rattle.dxf_copies.specs.Rendering
pub mod EditOrder
pub mod Drawings
pub mod ReadBack
pub mod Copies
pub mod PathEdits
pub mod InsideWalks
pub mod InsideEditOrder
pub mod InsideSheets
pub mod InsideStands
