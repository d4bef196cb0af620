-- Each piece of a sheet is a piece by itself.
use Rattle.std.proofs.Common.{◌≡◌, ◌≢◌, ℕ, zero, suc, ◌<◌, All, List, [], ◌∷◌, length, sym, subst, arith}
use Rattle.std.proofs.lemmas.List.Elements.{All-append, All-cons}
use Rattle.plane_base.specs.Plane.{whole}
use Rattle.plane_base.specs.declared.shapes.Pt.{Pt}
use Rattle.tin_base.specs.declared.frames.Frame.TheVariants.{Source}
use Rattle.tin_base.specs.declared.pieces.Piece.{Piece}
use Rattle.tin_base.specs.declared.pieces.Place.{Place}
use Rattle.tin_base.specs.Triangulation.{Triangulation, IsInTriangle}
use Rattle.tin_base.specs.Segments.{Part, part_at, at_a, spot_at, IsPart, ArePiecesOf}
use Rattle.affine_image.specs.RoundedImages.{IsRoundedImageAt}
use Rattle.sheet_pieces.specs.SheetSegments.{SheetSegment}
use Rattle.sheet_pieces.specs.SheetPieces.{IsTold, next_place, AreTold, ArePiecesOfSegment, ArePiecesOfAll}
use Rattle.sheet_pieces.specs.SheetPieces.{IsImagedPiece}
use Rattle.sheet_pieces.specs.SheetLaws.{SheetPiecesArePieces}

-- what is known of a part of the segment from a to b
pub record IsPartOf (tin : Triangulation) (a b : Pt) (part : Part) : Type 0 where
  pub of_point : a ≡ b → (part.triangle < length tin.triangles) × IsInTriangle tin Source part.triangle (whole a)
      × (part.first ≡ at_a) × (part.last ≡ at_a)
  pub of_segment : a ≢ b → IsPart tin a b part.triangle part.first part.last

part_of : (tin : Triangulation) (a b : Pt) (parts : List Part) → ArePiecesOf tin a b parts → (i : ℕ) → i < length parts
    → IsPartOf tin a b (part_at parts i)
part_of tin a b parts pieces i h = grind arith

imaged : (tin : Triangulation) (a b : Pt) (from : Place) (part : Part) (piece : Piece) → IsPartOf tin a b part
    → IsTold tin a b from part piece → IsImagedPiece tin piece
imaged tin a b from part piece known told =
    by (subst (λ (p : Pt). IsPartOf tin p piece.b part) (sym told.begins)
    (subst (λ (q : Pt). IsPartOf tin a q part) (sym told.ends) known))
  where
    by : IsPartOf tin piece.a piece.b part → IsImagedPiece tin piece
    by here = record {
      part = part;
      is_part = record {
        triangle = sym told.triangle;
        of_point = λ e. let p = here.of_point e in record {
          in_range = subst (λ (t : ℕ). t < length tin.triangles) (sym told.triangle) p.0;
          has_point = subst (λ (t : ℕ). IsInTriangle tin Source t (whole piece.a)) (sym told.triangle) p.1;
          begins = p.2;
          ends = p.3;
        };
        of_segment = λ differ. subst (λ (t : ℕ). IsPart tin piece.a piece.b t part.first part.last) (sym told.triangle)
            (here.of_segment differ);
      };
      first_image = subst (λ (p : Pt). IsRoundedImageAt tin (spot_at p piece.b part.first) piece.ia) (sym told.begins)
          (subst (λ (q : Pt). IsRoundedImageAt tin (spot_at a q part.first) piece.ia) (sym told.ends) told.first_image);
      last_image = subst (λ (p : Pt). IsRoundedImageAt tin (spot_at p piece.b part.last) piece.ib) (sym told.begins)
          (subst (λ (q : Pt). IsRoundedImageAt tin (spot_at a q part.last) piece.ib) (sym told.ends) told.last_image);
    }

no_pieces : (tin : Triangulation) → All (IsImagedPiece tin) []
no_pieces tin k d h = absurd (omega arith)

told_pieces : (tin : Triangulation) (a b : Pt) (from : Place) (parts : List Part) (pieces : List Piece)
    → ((i : ℕ) → i < length parts → IsPartOf tin a b (part_at parts i)) → AreTold tin a b from parts pieces
    → All (IsImagedPiece tin) pieces
told_pieces tin a b from [] [] known told = no_pieces tin
told_pieces tin a b from (part ∷ parts) (piece ∷ pieces) known told =
    All-cons (IsImagedPiece tin) piece pieces (imaged tin a b from part piece (known 0 (omega arith)) told.0)
    (told_pieces tin a b (next_place from) parts pieces (λ i h. known (suc i) (omega arith)) told.1)
told_pieces tin a b from parts pieces known told = absurd told

all_pieces : (tin : Triangulation) (layer : ℕ) (segments : List SheetSegment) (pieces : List Piece)
    → ArePiecesOfAll tin layer segments pieces → All (IsImagedPiece tin) pieces
all_pieces tin layer [] pieces e = subst (λ (ps : List Piece). All (IsImagedPiece tin) ps) (sym e) (no_pieces tin)
all_pieces tin layer (segment ∷ segments) pieces h =
    subst (λ (ps : List Piece). All (IsImagedPiece tin) ps) (sym h.2)
    (All-append (IsImagedPiece tin) h.0 h.1 (of_segment h.3) (all_pieces tin layer segments h.1 h.4))
  where
    of_segment : {own : List Piece} → ArePiecesOfSegment tin layer segment own → All (IsImagedPiece tin) own
    of_segment {own = own} are = told_pieces tin segment.a segment.b _ are.parts own
        (part_of tin segment.a segment.b are.parts are.cut) are.told

pub sheet_pieces_are_pieces : SheetPiecesArePieces
sheet_pieces_are_pieces tin layer sheet pieces are = all_pieces tin layer _ pieces are
