-- The lists of the pieces of segments: they are right for the segments, one after the other.
use Rattle.std.proofs.Common.{◌≡◌, ℕ, ◌+◌, ◌<◌, Bool, true, false, cond, List, [], ◌∷◌, ◌++◌}
use Rattle.std.proofs.Common.{length, map, refl, sym, ◌∙◌, ap, ap₂, subst, arith}
use Rattle.std.specs.Prelude.{nat_eq, ◌^◌, ◌≤◌}
use Rattle.std.specs.List.{AllByRecursion}
use Rattle.std.proofs.lemmas.Bool.Decides.{nat_tests}
use Rattle.plane_base.specs.declared.shapes.Pt.{Pt}
use Rattle.tin_base.specs.declared.pieces.Piece.{Piece}
use Rattle.tin_base.specs.declared.pieces.Place.{Place}
use Rattle.tin_base.specs.Triangulation.{Triangulation}
use Rattle.tin_base.specs.Limits.{IsWithinLimits}
use Rattle.tin_base.specs.Soundness.{IsSound}
use Rattle.tin_base.specs.Segments.{Spot, Part, IsInside}
use Rattle.sheet_base.specs.Sheets.{Contents}
use Rattle.sheet_pieces.specs.SheetSegments.{SheetSegment}
use Rattle.sheet_pieces.specs.SheetPieces.{AreTold, ArePiecesOfSegment, ArePiecesOfAll, ArePiecesOfSheet, AreInside}
use Rattle.sheet_pieces.specs.SheetPieces.{IsSheetInside, next_place, first_place}
use Rattle.sheet_pieces.proofs.PartSequences.{same_or}
use Rattle.cert_check.specs.Certificates.{IsList}
use Rattle.cert_check.specs.Laws.{IsRightlyCertified}
use Rattle.cert_check.specs.PieceLists.{ends_before, onto_first, lists_of}
use Rattle.cert_check.specs.RightLists.{AreFollowing, IsRightList, AreRightLists}
use Rattle.cert_check.proofs.ListPoints.{pieces_right}

-- the pieces are numbered on from this number
AreNumbered : ℕ → List Piece → Type 0
AreNumbered n [] = Unit {0}
AreNumbered n (piece ∷ pieces) = (piece.from.piece ≡ n) × AreNumbered (n + 1) pieces

told_numbered : (tin : Triangulation) (a b : Pt) (from : Place) (parts : List Part) (pieces : List Piece)
    → AreTold tin a b from parts pieces → AreNumbered from.piece pieces
unfolding AreNumbered
told_numbered tin a b from [] [] told = tt
told_numbered tin a b from (part ∷ parts) (piece ∷ pieces) told = (
  let first = told.0 in ap (λ (place : Place). place.piece) first.place,
  told_numbered tin a b (next_place from)
      parts pieces told.1,
)
told_numbered tin a b from parts pieces told = absurd told

triangles : List Piece → List ℕ
triangles pieces = map (λ (piece : Piece). piece.tri) pieces

told_triangles : (tin : Triangulation) (a b : Pt) (from : Place) (parts : List Part) (pieces : List Piece)
    → AreTold tin a b from parts pieces → map (λ (part : Part). part.triangle) parts ≡ triangles pieces
unfolding triangles
told_triangles tin a b from [] [] told = refl
told_triangles tin a b from (part ∷ parts) (piece ∷ pieces) told =
    ap₂ (λ (n : ℕ) (ns : List ℕ). n ∷ ns) (let first = told.0 in sym first.triangle)
    (told_triangles tin a b (next_place from) parts pieces told.1)
told_triangles tin a b from parts pieces told = absurd told

not_first : (n m : ℕ) → n ≡ m + 1 → nat_eq n 0 ≡ false
not_first n m e = grind (arith, nat_tests, e)

-- the list of some pieces, numbered on, before those of others
own_list : (own rest : List Piece) (piece : Piece) (n : ℕ) → AreNumbered n (piece ∷ own) → ends_before rest ≡ true
    → lists_of ((piece ∷ own) ++ rest) ≡ triangles (piece ∷ own) ∷ lists_of rest
unfolding AreNumbered triangles
own_list [] rest piece n numbered ends = ap
    (λ (test : Bool). cond test ((piece.tri ∷ []) ∷ lists_of rest) (onto_first piece.tri (lists_of rest))) ends
own_list (next ∷ own) rest piece n numbered ends =
    ap (λ (test : Bool). cond test ((piece.tri ∷ []) ∷ lists_of ((next ∷ own) ++ rest))
    (onto_first piece.tri (lists_of ((next ∷ own) ++ rest)))) (not_first next.from.piece n numbered.1.0)
    ∙ ap (λ (lists : List (List ℕ)). onto_first piece.tri lists) (own_list own rest next (n + 1) numbered.1 ends)

none_right : (tin : Triangulation) (a b : Pt) → IsRightList tin a b [] → ⊥
none_right tin a b right = grind (arith, same_or)

-- what holds of the pieces of some segments
pub record AreListed (tin : Triangulation) (segments : List SheetSegment) (pieces : List Piece) : Type 0 where
  pub right : AreRightLists tin segments (lists_of pieces)
  pub ends : ends_before pieces ≡ true

one_more : (tin : Triangulation) (layer : ℕ) (segment : SheetSegment) (segments : List SheetSegment)
    (own rest : List Piece)
    → IsSound tin → IsInside tin segment.a segment.b → ArePiecesOfSegment tin layer segment own
    → AreListed tin segments rest → AreListed tin (segment ∷ segments) (own ++ rest)
unfolding AreNumbered triangles
one_more tin layer segment segments own rest sound inside pieces others =
    go own (subst (λ (ns : List ℕ). IsRightList tin segment.a segment.b ns)
    (told_triangles tin segment.a segment.b (first_place layer segment) pieces.parts own pieces.told)
    (pieces_right tin segment.a segment.b pieces.parts sound inside pieces.cut))
    (told_numbered tin segment.a segment.b (first_place layer segment) pieces.parts own pieces.told)
  where
    go : (own : List Piece) → IsRightList tin segment.a segment.b (triangles own) → AreNumbered 0 own
        → AreListed tin (segment ∷ segments) (own ++ rest)
    go [] right numbered = absurd (none_right tin segment.a segment.b right)
    go (piece ∷ own) right numbered = record {
      right = subst (λ (lists : List (List ℕ)). AreRightLists tin (segment ∷ segments) lists)
          (sym (own_list own rest piece 0 numbered others.ends)) (right, others.right);
      ends = ap (λ (n : ℕ). nat_eq n 0) numbered.0;
    }

all_listed : (tin : Triangulation) (layer : ℕ) (segments : List SheetSegment) (pieces : List Piece) → IsSound tin
    → AreInside tin segments → ArePiecesOfAll tin layer segments pieces → AreListed tin segments pieces
all_listed tin layer [] pieces sound inside none =
    subst (λ (ps : List Piece). AreListed tin [] ps) (sym none) (record { right = tt; ends = refl })
all_listed tin layer (segment ∷ segments) pieces sound inside (own, rest, is, here, others) =
    subst (λ (ps : List Piece). AreListed tin (segment ∷ segments) ps) (sym is)
    (one_more tin layer segment segments own rest sound inside.0 here
    (all_listed tin layer segments rest sound inside.1 others))

-- ---- a right list is one of a certificate
small : (t n : ℕ) → t < n → n ≤ 2097152 → t < 2 ^ 32
small t n h k = omega arith

following_below : (tin : Triangulation) (a b : Pt) (x : Spot) (numbers : List ℕ) → IsWithinLimits tin
    → AreFollowing tin a b x numbers → AllByRecursion (λ n. n < 2 ^ 32) numbers
following_below tin a b x [] limits follow = tt
following_below tin a b x (t ∷ ts) limits (first, last, part, begins, follow) =
    (small t (length tin.triangles) part.in_range limits.triangle_count, following_below tin a b last ts limits follow)

right_is_list : (tin : Triangulation) (a b : Pt) (numbers : List ℕ) → IsWithinLimits tin → IsRightList tin a b numbers
    → IsList numbers
right_is_list tin a b numbers limits right = grind (arith, same_or, following_below)

are_lists : (tin : Triangulation) (segments : List SheetSegment) (lists : List (List ℕ)) → IsWithinLimits tin
    → AreRightLists tin segments lists → AllByRecursion IsList lists
are_lists tin [] [] limits right = tt
are_lists tin [] (list ∷ lists) limits right = absurd right
are_lists tin (segment ∷ segments) [] limits right = absurd right
are_lists tin (segment ∷ segments) (list ∷ lists) limits right =
    (right_is_list tin segment.a segment.b list limits right.0, are_lists tin segments lists limits right.1)

pub sheet_certified : (tin : Triangulation) (layer : ℕ) (sheet : Contents) (pieces : List Piece) → IsWithinLimits tin
    → IsSound tin → IsSheetInside tin sheet → ArePiecesOfSheet tin layer sheet pieces
    → IsRightlyCertified tin sheet pieces
sheet_certified tin layer sheet pieces limits sound inside pieces_are = grind (arith, all_listed, are_lists)
