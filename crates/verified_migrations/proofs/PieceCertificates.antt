-- The certificate of a sheet's pieces certifies the text for its images.
use Rattle.std.proofs.Common.{ℕ, List, refl}
use Rattle.sheet_base.specs.declared.edits.Edit.{Edit}
use Rattle.sheet_base.specs.Sheets.{Contents}
use Rattle.sheet_base.specs.ImageFits.{Runs}
use Rattle.sheet_base.specs.Splices.{splice_of}
use Rattle.tin_base.specs.declared.pieces.Piece.{Piece}
use Rattle.tin_base.specs.Triangulation.{Triangulation}
use Rattle.tin_base.specs.Limits.{IsWithinLimits}
use Rattle.tin_base.specs.Soundness.{IsSound}
use Rattle.sheet_pieces.specs.SheetPieces.{ArePiecesOfSheet, IsSheetInside}
use Rattle.sheet_pieces.specs.SheetImages.{AreImagesOf}
use Rattle.cert_check.specs.Certificates.{certificate_of}
use Rattle.cert_check.specs.Laws.{PiecesAreRightlyCertified}
use Rattle.cert_check.specs.PieceLists.{lists_of}
use Rattle.cert_check.specs.Checks.{IsCertified}

pub certify : PiecesAreRightlyCertified → (tin : Triangulation) (source : List ℕ) (reads : Contents → Type 0)
    (text : Contents → Runs → Edit → List ℕ) (layer : ℕ) (sheet : Contents) (images : Runs) (pieces : List Piece)
    → IsWithinLimits tin → IsSound tin → reads sheet → IsSheetInside tin sheet → AreImagesOf tin sheet images
    → ArePiecesOfSheet tin layer sheet pieces
    → IsCertified tin source (splice_of source (text sheet images) sheet.edits) reads text
    (certificate_of (lists_of pieces))
certify rightly tin source reads text layer sheet images pieces limits sound read inside are cut =
    let is = rightly tin layer sheet pieces limits sound inside cut in
    record {
      migrated = record {
        sheet = sheet;
        read = read;
        inside = inside;
        images = images;
        are_images = are;
        written_is = refl;
      };
      lists = lists_of pieces;
      certificate = is.certificate;
      are_right = is.are_right;
    }
