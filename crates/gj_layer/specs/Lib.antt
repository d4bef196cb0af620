-- The files of definitions of gj_layer, and those of lower crates that its clauses cite.
pub use Rattle.mm_decimal.specs.AnswerValues
pub use Rattle.mm_decimal.specs.MetresTexts
pub use Rattle.jtext.specs.Characters
pub use Rattle.jtext.specs.Lookups
pub use Rattle.jtext.specs.Nodes
pub use Rattle.jtext.specs.Places
pub use Rattle.jtext.specs.Texts as JtextTexts
pub use Rattle.jtext.specs.Values
pub use Rattle.sheet_base.specs.Faults
pub use Rattle.sheet_base.specs.ImageFits
pub use Rattle.sheet_base.specs.ImageLists
pub use Rattle.sheet_base.specs.Outcomes
pub use Rattle.sheet_base.specs.PointHeights
pub use Rattle.sheet_base.specs.ReadBack
pub use Rattle.sheet_base.specs.ReadSheets
pub use Rattle.sheet_base.specs.Rings
pub use Rattle.sheet_base.specs.Sheets
pub mod Members
pub mod Positions
pub mod Paths
pub mod Objects
pub mod Documents
pub mod Layers
pub mod Texts
pub mod InsideNodes
pub mod InsideFrames
pub mod InsideBoxes
