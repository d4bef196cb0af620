-- The files of definitions of sheet_pieces, and those of lower crates that its clauses cite.
pub use Rattle.plane_base.specs.Plane
pub use Rattle.plane_base.specs.Slices
pub use Rattle.tin_base.specs.Images
pub use Rattle.tin_base.specs.Limits
pub use Rattle.tin_base.specs.Pieces
pub use Rattle.tin_base.specs.Relations
pub use Rattle.tin_base.specs.Segments
pub use Rattle.tin_base.specs.Slices as TinBaseSlices
pub use Rattle.tin_base.specs.Soundness
pub use Rattle.tin_base.specs.Triangulation
pub use Rattle.sheet_base.specs.ImageFits
pub use Rattle.sheet_base.specs.PointHeights
pub use Rattle.sheet_base.specs.ReadBack
pub use Rattle.sheet_base.specs.Rings
pub use Rattle.sheet_base.specs.Segments as SheetBaseSegments
pub use Rattle.sheet_base.specs.Sheets
pub use Rattle.affine_image.specs.Heights
pub use Rattle.affine_image.specs.RoundedImages
pub mod SheetSegments
pub mod SheetPieces
pub mod SheetImages
pub mod SheetLaws
pub mod SegmentImages
pub mod SpotHeights
