-- The pieces of layers that are inside may be compared.
use Rattle.std.proofs.Common.{ℕ, ◌+◌, All, List, [], ◌∷◌, length, sym, subst, slice_index_or, arith}
use Rattle.std.proofs.lemmas.List.Elements.{All-append, All-cons}
use Rattle.std.proofs.lemmas.Int.{ints}
use Rattle.plane_base.specs.Plane.{whole, IsNear}
use Rattle.plane_base.specs.declared.shapes.Pt.{Pt}
use Rattle.sheet_base.specs.Sheets.{Contents}
use Rattle.tin_base.specs.declared.frames.Frame.TheVariants.{Source}
use Rattle.tin_base.specs.declared.pieces.Piece.{Piece}
use Rattle.tin_base.specs.declared.pieces.Place.{Place}
use Rattle.tin_base.specs.Triangulation.{Triangulation}
use Rattle.tin_base.specs.Images.{IsInSome}
use Rattle.tin_base.specs.Limits.{IsWithinLimits}
use Rattle.tin_base.specs.Segments.{Part, IsInside}
use Rattle.tin_base.specs.Pieces.{IsPieceInside}
use Rattle.affine_image.proofs.Reach.{rounded_images_are_near}
use Rattle.sheet_pieces.specs.SheetSegments.{SheetSegment}
use Rattle.sheet_pieces.specs.SheetPieces.{next_place, AreTold, ArePiecesOfSegment, ArePiecesOfAll, ArePiecesOfSheet}
use Rattle.sheet_pieces.specs.SheetPieces.{AreInside, IsSheetInside, IsImagedPiece}
use Rattle.sheet_pieces.proofs.SinglePieces.{sheet_pieces_are_pieces}
use Rattle.meet_rel.proofs.Scale.{mix_first, mix_last}
use Rattle.topo_check.specs.Changes.{AreComparable, AreAllComparable, AreAllInside}
use Rattle.migrate_mode.specs.LayerRuns.{Setting, Done, IsNextCarried, AreCarried}

-- both ends of the piece's segment are in source triangles
record AreEndsInside (tin : Triangulation) (piece : Piece) : Type 0 where
  pub begins : IsInSome tin Source (whole piece.a)
  pub ends : IsInSome tin Source (whole piece.b)

no_pieces : (tin : Triangulation) → All (AreEndsInside tin) []
no_pieces tin k d h = absurd (omega arith)

told_inside : (tin : Triangulation) (a b : Pt) (from : Place) (parts : List Part) (pieces : List Piece)
    → IsInSome tin Source (whole a) → IsInSome tin Source (whole b) → AreTold tin a b from parts pieces
    → All (AreEndsInside tin) pieces
told_inside tin a b from [] [] ha hb told = no_pieces tin
told_inside tin a b from [] (piece ∷ pieces) ha hb told = absurd told
told_inside tin a b from (part ∷ parts) [] ha hb told = absurd told
told_inside tin a b from (part ∷ parts) (piece ∷ pieces) ha hb told =
    All-cons (AreEndsInside tin) piece pieces
    (record {
      begins = subst (λ (p : Pt). IsInSome tin Source (whole p)) (sym told.0.begins) ha;
      ends =
          subst (λ (p : Pt). IsInSome tin Source (whole p)) (sym told.0.ends) hb;
    })
    (told_inside tin a b (next_place from) parts pieces ha hb told.1)

all_inside : (tin : Triangulation) (layer : ℕ) (segments : List SheetSegment) (pieces : List Piece)
    → AreInside tin segments
    → ArePiecesOfAll tin layer segments pieces → All (AreEndsInside tin) pieces
all_inside tin layer [] pieces inside e = subst (λ (ps : List Piece). All (AreEndsInside tin) ps) (sym e)
    (no_pieces tin)
all_inside tin layer (segment ∷ segments) pieces inside h =
    subst (λ (ps : List Piece). All (AreEndsInside tin) ps) (sym h.2)
    (All-append (AreEndsInside tin) h.0 h.1 (of_segment h.3 inside.0) (all_inside tin layer segments h.1 inside.1 h.4))
  where
    of_segment : {own : List Piece} → ArePiecesOfSegment tin layer segment own → IsInside tin segment.a segment.b
        → All (AreEndsInside tin) own
    of_segment {own = own} are way =
        told_inside tin segment.a segment.b _ are.parts own
        (way (whole segment.a) (omega (arith, ints)) (mix_first (whole segment.a) (whole segment.b)))
        (way (whole segment.b) (omega (arith, ints)) (mix_last (whole segment.a) (whole segment.b))) are.told

-- so each piece of a sheet that is inside is one of a segment with ends in source triangles
pieces_are_inside : (tin : Triangulation) (layer : ℕ) (sheet : Contents) (pieces : List Piece)
    → IsSheetInside tin sheet → ArePiecesOfSheet tin layer sheet pieces → AreAllInside tin pieces
pieces_are_inside tin layer sheet pieces inside are i d h =
    let imaged : All (IsImagedPiece tin) pieces = sheet_pieces_are_pieces tin layer sheet pieces are in
    let ends : All (AreEndsInside tin) pieces = all_inside tin layer _ pieces inside are in
    let one = imaged i d h in
    let both = ends i d h in
    record { is_piece = (one.part, one.is_part); begins = both.begins; ends = both.ends }

compared : (tin : Triangulation) (p q : Piece) → IsWithinLimits tin → IsImagedPiece tin p → IsImagedPiece tin q
    → IsPieceInside tin p → IsPieceInside tin q → AreComparable tin p q
compared tin p q limits of_p of_q inside_p inside_q = record {
  first = inside_p;
  second = inside_q;
  near =
      let pa = of_p.first_image in let pb = of_p.last_image in let qa = of_q.first_image in let qb = of_q.last_image in
      let ab : IsNear p.ia p.ib = rounded_images_are_near tin _ _ p.ia p.ib limits pa pb in
      let ac : IsNear p.ia q.ia = rounded_images_are_near tin _ _ p.ia q.ia limits pa qa in
      let ad : IsNear p.ia q.ib = rounded_images_are_near tin _ _ p.ia q.ib limits pa qb in
      let bc : IsNear p.ib q.ia = rounded_images_are_near tin _ _ p.ib q.ia limits pb qa in
      let bd : IsNear p.ib q.ib = rounded_images_are_near tin _ _ p.ib q.ib limits pb qb in
      let cd : IsNear q.ia q.ib = rounded_images_are_near tin _ _ q.ia q.ib limits qa qb in
      ((ab, ac, bc), (ab, ad, bd), cd);
}

-- a piece that is imaged and inside
pub record IsSeen (tin : Triangulation) (piece : Piece) : Type 0 where
  pub imaged : IsImagedPiece tin piece
  pub inside : IsPieceInside tin piece

seen_of : (tin : Triangulation) (layer : ℕ) (sheet : Contents) (pieces : List Piece) → IsSheetInside tin sheet
    → ArePiecesOfSheet tin layer sheet pieces → All (IsSeen tin) pieces
seen_of tin layer sheet pieces inside are i d h =
    let imaged : All (IsImagedPiece tin) pieces = sheet_pieces_are_pieces tin layer sheet pieces are in
    let within : AreAllInside tin pieces = pieces_are_inside tin layer sheet pieces inside are in
    record { imaged = imaged i d h; inside = within i d h }

all_compared : (tin : Triangulation) (pieces : List Piece) → IsWithinLimits tin → All (IsSeen tin) pieces
    → AreAllComparable tin pieces
all_compared tin pieces limits seen i d h j e k =
    let p = seen i d h in let q = seen j e k in
    compared tin (slice_index_or pieces i d) (slice_index_or pieces j e) limits p.imaged q.imaged p.inside q.inside

pub pieces_are_comparable : (tin : Triangulation) (layer : ℕ) (sheet : Contents) (pieces : List Piece)
    → IsWithinLimits tin → IsSheetInside tin sheet → ArePiecesOfSheet tin layer sheet pieces
    → AreAllComparable tin pieces
pieces_are_comparable tin layer sheet pieces limits inside are =
    all_compared tin pieces limits (seen_of tin layer sheet pieces inside are)

-- ---- the pieces of all layers that are carried
next_seen : (setting : Setting) (number used : ℕ) (before : List Piece) (name bytes : List ℕ) (after : List Piece)
    (done : Done)
    → IsNextCarried setting number used before name bytes after done → All (IsSeen setting.tin) before
    → All (IsSeen setting.tin) after
next_seen setting number used before name bytes after done is seen =
    let carried = is.carried in
    let layer = carried.layer in
    subst (λ (ps : List Piece). All (IsSeen setting.tin) ps) (sym layer.stand)
    (All-append (IsSeen setting.tin) before layer.own seen
    (seen_of setting.tin number layer.sheet layer.own layer.inside layer.are_pieces))

run_seen : (setting : Setting) (number used : ℕ) (before : List Piece) (names : List (List ℕ)) (after : List Piece)
    (done : List Done) (total : ℕ)
    → AreCarried setting number used before names after done total → All (IsSeen setting.tin) before
    → All (IsSeen setting.tin) after
run_seen setting number used before [] after done total (same, none, count) seen =
    subst (λ (ps : List Piece). All (IsSeen setting.tin) ps) (sym same) seen
run_seen setting number used before (name ∷ names) after done total (bytes, pieces, first, rest, is, are, others) seen =
    run_seen setting (number + 1) (used + length bytes) pieces names after rest total others
    (next_seen setting number used before name bytes pieces first is seen)

none_seen : (tin : Triangulation) → All (IsSeen tin) []
none_seen tin k d h = absurd (omega arith)

pub run_compared : (setting : Setting) (names : List (List ℕ)) (pieces : List Piece) (done : List Done) (total : ℕ)
    → IsWithinLimits setting.tin
    → AreCarried setting 0 0 [] names pieces done total → AreAllComparable setting.tin pieces
run_compared setting names pieces done total limits are =
    all_compared setting.tin pieces limits (run_seen setting 0 0 [] names pieces done total are (none_seen setting.tin))

pub run_inside : (setting : Setting) (names : List (List ℕ)) (pieces : List Piece) (done : List Done) (total : ℕ)
    → AreCarried setting 0 0 [] names pieces done total → AreAllInside setting.tin pieces
run_inside setting names pieces done total are i d h = let seen =
    run_seen setting 0 0 [] names pieces done total are (none_seen setting.tin) i d h in seen.inside
