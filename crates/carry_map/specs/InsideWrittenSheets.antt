-- What it is that a sheet is carried and written. Only private functions speak of it.
use Rattle.std.specs.Prelude.{◌≡◌, ℕ, List, ◌++◌}
use Rattle.sheet_base.specs.declared.edits.Edit.{Edit}
use Rattle.sheet_base.specs.Sheets.{Contents}
use Rattle.sheet_base.specs.ImageFits.{Runs, DoFit}
use Rattle.sheet_base.specs.Splices.{splice_of}
use Rattle.tin_base.specs.declared.pieces.Piece.{Piece}
use Rattle.tin_base.specs.Triangulation.{Triangulation}
use Rattle.sheet_pieces.specs.SheetPieces.{ArePiecesOfSheet, IsSheetInside}
use Rattle.sheet_pieces.specs.SheetImages.{AreImagesOf}

-- these are the images of the sheet, it has pieces, and the text is the bytes with the texts for the images
pub record IsSheetWritten (tin : Triangulation) (bytes : List ℕ) (text : Contents → Runs → Edit → List ℕ) (layer : ℕ)
    (sheet : Contents) (images : Runs) (before after : List Piece) (written : List ℕ) : Type 0 where
  pub inside : IsSheetInside tin sheet
  pub are_images : AreImagesOf tin sheet images
  pub fit : DoFit sheet images
  pub text_is : written ≡ splice_of bytes (text sheet images) sheet.edits
  pub own : List Piece
  pub are_pieces : ArePiecesOfSheet tin layer sheet own
  pub stand : after ≡ before ++ own
