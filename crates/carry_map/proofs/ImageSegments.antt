-- The images' segments are those of the pieces that were appended.
use Rattle.std.proofs.Common.{◌≡◌, ℕ, List, ◌++◌, drop, length, ap, sym, ◌∙◌, subst}
use Rattle.std.proofs.Math.Seq.{drop-append_seam}
use Rattle.sheet_base.specs.Sheets.{Contents, IsSheet}
use Rattle.sheet_base.specs.ImageFits.{Runs}
use Rattle.tin_base.specs.declared.pieces.Piece.{Piece}
use Rattle.tin_base.specs.Triangulation.{Triangulation}
use Rattle.tin_base.specs.Soundness.{IsSound}
use Rattle.sheet_pieces.specs.SheetPieces.{ArePiecesOfSheet, IsSheetInside}
use Rattle.sheet_pieces.specs.SheetImages.{AreImagesOf}
use Rattle.sheet_pieces.proofs.PathSegments.{image_segments_are_pieces}
use Rattle.carry_map.specs.CarriedLists.{AreSegmentsOf}

-- the pieces after those before
pub own_segments : (tin : Triangulation) (layer : ℕ) (sheet : Contents) (images : Runs) (before after own : List Piece)
    (n : ℕ) → IsSound tin → IsSheet sheet → IsSheetInside tin sheet → AreImagesOf tin sheet images
    → ArePiecesOfSheet tin layer sheet own → after ≡ before ++ own → n ≡ length before
    → AreSegmentsOf sheet images (drop n after)
own_segments tin layer sheet images before after own n sound is inside are pieces all count =
    let behind : drop n after ≡ own = ap (drop n) all ∙ ap (λ k. drop k (before ++ own)) count
    ∙ drop-append_seam before own in
    subst (AreSegmentsOf sheet images) (sym behind)
    (image_segments_are_pieces tin layer sheet images own sound is inside are pieces)
