-- The laws of the pieces and images of a sheet.
use Rattle.std.specs.Prelude.{◌≡◌, ℕ, ◌+◌, ◌<◌, ◌^◌, List, All, length, map, slice_get, Some}
use Rattle.plane_base.specs.declared.shapes.Pt.{Pt}
use Rattle.sheet_base.specs.Sheets.{Contents, AreTiled, IsSheet}
use Rattle.sheet_base.specs.ImageFits.{Runs, DoFit}
use Rattle.sheet_base.specs.ReadBack.{Ends, ends_of, row_of_images}
use Rattle.tin_base.specs.declared.pieces.Piece.{Piece}
use Rattle.tin_base.specs.Triangulation.{Triangulation}
use Rattle.tin_base.specs.Limits.{IsWithinLimits}
use Rattle.tin_base.specs.Soundness.{IsSound}
use Rattle.tin_base.specs.Segments.{IsInside}
use Rattle.affine_image.specs.RoundedImages.{IsRoundedImage}
use Rattle.sheet_pieces.specs.SheetSegments.{SheetSegment}
use Rattle.sheet_pieces.specs.SheetPieces.{ArePiecesOfSegment, ArePiecesOfSheet, IsSheetInside, IsImagedPiece}
use Rattle.sheet_pieces.specs.SheetImages.{AreImagesOf}

-- the images of the pieces of a segment are joined: the first begins at the image of a, each at the end of the one
-- before it, and the last ends at the image of b
pub record AreImagesJoined (tin : Triangulation) (segment : SheetSegment) (pieces : List Piece) : Type 0 where
  pub some : 0 < length pieces
  pub begins : (piece : Piece) → slice_get pieces 0 ≡ Some piece → IsRoundedImage tin segment.a piece.ia
  pub joined : (i : ℕ) (piece next : Piece) → slice_get pieces i ≡ Some piece → slice_get pieces (i + 1) ≡ Some next
      → piece.ib ≡ next.ia
  pub ends : (i : ℕ) (piece : Piece) → i + 1 ≡ length pieces → slice_get pieces i ≡ Some piece
      → IsRoundedImage tin segment.b piece.ib

-- For each sound triangulation: so it is with the pieces of each segment that is inside
abbrev pub PieceImagesAreJoined : Type 0
PieceImagesAreJoined =
    (tin : Triangulation) (layer : ℕ) (segment : SheetSegment) (pieces : List Piece) → IsSound tin
    → IsInside tin segment.a segment.b → ArePiecesOfSegment tin layer segment pieces
    → AreImagesJoined tin segment pieces

-- each piece of a sheet is a piece of the triangulation, with the rounded images of its ends
abbrev pub SheetPiecesArePieces : Type 0
SheetPiecesArePieces = (tin : Triangulation) (layer : ℕ) (sheet : Contents) (pieces : List Piece)
    → ArePiecesOfSheet tin layer sheet pieces → All (IsImagedPiece tin) pieces

-- For each sound triangulation: where all segments of a sheet are inside, whose paths follow each other without a gap,
-- it has images
abbrev pub ImagesExist : Type 0
ImagesExist = (tin : Triangulation) → IsSound tin → (sheet : Contents) → AreTiled sheet.paths 0 (length sheet.points)
    → IsSheetInside tin sheet → (images : Runs) × AreImagesOf tin sheet images

-- For each sound triangulation: the images of a sheet all of whose segments are inside fit it, where they are few
-- enough to be counted in 32 bits
abbrev pub ImagesFit : Type 0
ImagesFit = (tin : Triangulation) (sheet : Contents) (images : Runs) → IsWithinLimits tin → IsSound tin → IsSheet sheet
    → IsSheetInside tin sheet → AreImagesOf tin sheet images → length images.points < 2 ^ 32 → DoFit sheet images

-- the rounded images of the ends of some pieces, from the first point's to the last one's
abbrev pub image_ends : List Piece → List (Ends Pt)
image_ends pieces = map (λ (piece : Piece). record { from = piece.ia; to = piece.ib }) pieces

-- For each sound triangulation: where all segments of a sheet are inside, its paths with their images in place of their
-- points have the segments between the images of its pieces' ends, in order
abbrev pub ImageSegmentsArePieces : Type 0
ImageSegmentsArePieces =
    (tin : Triangulation) (layer : ℕ) (sheet : Contents) (images : Runs) (pieces : List Piece) → IsSound tin
    → IsSheet sheet → IsSheetInside tin sheet → AreImagesOf tin sheet images
    → ArePiecesOfSheet tin layer sheet pieces
    → ends_of images.points (map (row_of_images images) sheet.paths) ≡ image_ends pieces
