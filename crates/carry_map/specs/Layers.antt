-- What it is that a whole layer is carried, and that it is not: read, carried and rendered.
use Rattle.std.specs.Prelude.{◌≡◌, ℕ, ◌*◌, ◌≤◌, List, ◌++◌, length, All}
use Rattle.plane_base.specs.declared.shapes.Pt.{Pt}
use Rattle.plane_base.specs.Plane.{Point, whole}
use Rattle.sheet_base.specs.declared.edits.Edit.{Edit}
use Rattle.sheet_base.specs.Sheets.{Contents}
use Rattle.sheet_base.specs.ImageFits.{Runs, DoFit}
use Rattle.sheet_base.specs.Splices.{AreInOrder, splice_of}
use Rattle.sheet_base.specs.ReadBack.{ends_of}
use Rattle.tin_base.specs.declared.frames.Frame.TheVariants.{Source}
use Rattle.tin_base.specs.declared.pieces.Piece.{Piece}
use Rattle.tin_base.specs.Images.{IsInSome}
use Rattle.tin_base.specs.Triangulation.{Triangulation}
use Rattle.affine_image.specs.RoundedImages.{IsRoundedImageAt}
use Rattle.sheet_pieces.specs.SheetSegments.{sheet_segments}
use Rattle.sheet_pieces.specs.SheetPieces.{ArePiecesOfSheet, IsSheetInside}
use Rattle.sheet_pieces.specs.SheetImages.{AreImagesOf}
use Rattle.sheet_pieces.specs.SheetLaws.{image_ends}
use Rattle.carry_map.specs.declared.layers.Carried.{Carried}
use Rattle.carry_map.specs.declared.limits.TheConstants.{MOST_PIECES}
use Rattle.carry_map.specs.Causes.{IsFirstOutside, IsFirstTooMany}

-- ---- a layer
-- it is read as some sheet, and this is so of the sheet
abbrev pub IsReadWith : (Contents → Type 0) → (Contents → Type 0) → Type 0
IsReadWith reads IsSo = (sheet : Contents) × reads sheet × IsSo sheet

-- A layer of these bytes, which a format reads as sheets and whose texts for a sheet's edits are given, is carried.
pub record IsLayerCarried (tin : Triangulation) (bytes : List ℕ) (reads : Contents → Type 0)
    (text : Contents → Runs → Edit → List ℕ) (layer : ℕ) (before after : List Piece) (carried : Carried) : Type 0 where
  -- its sheet
  pub sheet : Contents
  pub read : reads sheet
  pub inside : IsSheetInside tin sheet
  pub edits : AreInOrder 0 sheet.edits (length bytes)
  -- its images, and the bytes with their texts
  pub images : Runs
  pub are_images : AreImagesOf tin sheet images
  pub fit : DoFit sheet images
  pub text_is : carried.text ≡ splice_of bytes (text sheet images) sheet.edits
  -- its pieces, after those that were there before
  pub own : List Piece
  pub are_pieces : ArePiecesOfSheet tin layer sheet own
  pub stand : after ≡ before ++ own
  -- its numbers
  pub paths : carried.paths ≡ length sheet.paths
  pub segments : carried.segments ≡ length (sheet_segments sheet)
  pub pieces : carried.pieces ≡ length own
  pub inexact : carried.inexact ≡ sheet.inexact
  pub dropped : carried.dropped ≡ sheet.dropped

-- the image is the rounded one of some place
abbrev pub IsSomeImage : Triangulation → Pt → Type 0
IsSomeImage tin image = (p : Point) × IsRoundedImageAt tin p image

-- the images fit the sheet; each point of the sheet is in a source triangle, each of the images is that of some place,
-- and there are at most two for each piece that a run may have
pub record IsPlaced (tin : Triangulation) (sheet : Contents) (images : Runs) : Type 0 where
  pub fit : DoFit sheet images
  pub in_source : All (λ p. IsInSome tin Source (whole p)) sheet.points
  pub are_imaged : All (IsSomeImage tin) images.points
  pub few : length images.points ≤ 2 * MOST_PIECES

-- this is what the layer is read as, wholly inside, and these are its images
pub record IsLayerKept (tin : Triangulation) (reads : Contents → Type 0) (sheet : Contents) (images : Runs) : Type 0 where
  pub read : reads sheet
  pub inside : IsSheetInside tin sheet
  pub are_images : AreImagesOf tin sheet images
  pub fit : DoFit sheet images

-- it is read as a sheet whose first segment that is not carried is outside, and is the one of these numbers
abbrev pub IsLayerOutside : Triangulation → (Contents → Type 0) → ℕ → ℕ → ℕ → ℕ → ℕ → Type 0
IsLayerOutside tin reads layer old most path number =
    IsReadWith reads (λ sheet. IsFirstOutside tin layer old most (sheet_segments sheet) path number)

-- it is read as a sheet whose first segment that is not carried is inside, but with its pieces there are more than
-- `most`
abbrev pub IsLayerTooMany : Triangulation → (Contents → Type 0) → ℕ → ℕ → ℕ → Type 0
IsLayerTooMany tin reads layer old most = IsReadWith reads
    (λ sheet. IsFirstTooMany tin layer old most (sheet_segments sheet))

-- ---- reading it back
-- the text is read as some sheet, whose segments in order are those between the images of these pieces' ends
pub record IsReadAsPieces (reads : List ℕ → Contents → Type 0) (text : List ℕ) (pieces : List Piece) : Type 0 where
  pub sheet : Contents
  pub is_read : reads text sheet
  pub segments : ends_of sheet.points sheet.paths ≡ image_ends pieces

-- The bytes are read as a sheet, and have images; unless the format excepts what is written of these, the text is read
-- as the pieces.
pub record IsBackAsPieces (tin : Triangulation) (bytes : List ℕ) (reads : List ℕ → Contents → Type 0)
    (reads_back : Contents → Runs → Type 0) (text : List ℕ) (pieces : List Piece) : Type 0 where
  pub sheet : Contents
  pub read : reads bytes sheet
  pub images : Runs
  pub are_images : AreImagesOf tin sheet images
  pub back : reads_back sheet images → IsReadAsPieces reads text pieces
