-- The first segment that is not carried is one: it is outside, or its pieces find no room; and where all are carried
-- there is none.
use Rattle.std.proofs.Common.{◌≡◌, ℕ, ◌+◌, ◌<◌, ◌≤◌, List, [], ◌∷◌, ◌++◌, length, refl, sym, ◌∙◌, ap, ap₂, subst, arith}
use Rattle.std.proofs.Common.{length-append}
use Rattle.tin_base.specs.declared.pieces.Piece.{Piece}
use Rattle.tin_base.specs.Triangulation.{Triangulation}
use Rattle.tin_base.specs.Segments.{Part, IsInside, ArePiecesOf}
use Rattle.sheet_pieces.specs.SheetSegments.{SheetSegment}
use Rattle.sheet_pieces.specs.SheetPieces.{first_place, ArePiecesOfSegment, ArePiecesOfAll, AreInside}
use Rattle.sheet_pieces.proofs.OneCut.{cut_alike, alike_length}
use Rattle.sheet_pieces.proofs.PieceParts.{told_length}
use Rattle.carry_map.specs.Causes.{IsFirstOutside, IsFirstTooMany}

-- ---- two places in one list of segments
-- the segments x after `before` and y after `others` are at one place, or one of them among those before the other
data AreTwoPlaces (before others : List SheetSegment) (x y : SheetSegment) : Type 0 where
  one_place : before ≡ others → x ≡ y → AreTwoPlaces before others x y
  later : (more : List SheetSegment) → before ≡ others ++ y ∷ more → AreTwoPlaces before others x y
  sooner : (more : List SheetSegment) → others ≡ before ++ x ∷ more → AreTwoPlaces before others x y

abbrev and_then : SheetSegment → List SheetSegment → List SheetSegment
and_then segment segments = segment ∷ segments

two_places : (before others behind rest : List SheetSegment) (x y : SheetSegment)
    → before ++ x ∷ behind ≡ others ++ y ∷ rest → AreTwoPlaces before others x y
two_places [] [] behind rest x y same = let e : x ≡ y = cc in one_place refl e
two_places [] (first ∷ others) behind rest x y same =
    let e : first ≡ x = cc in sooner others (ap (λ (s : SheetSegment). s ∷ others) e)
two_places (first ∷ before) [] behind rest x y same =
    let e : first ≡ y = cc in later before (ap (λ (s : SheetSegment). s ∷ before) e)
two_places (first ∷ before) (also ∷ others) behind rest x y same =
    let e : first ≡ also = cc in
    let tail : before ++ x ∷ behind ≡ others ++ y ∷ rest = cc in
    by e (two_places before others behind rest x y tail)
  where
    by : first ≡ also → AreTwoPlaces before others x y → AreTwoPlaces (first ∷ before) (also ∷ others) x y
    by e (one_place p q) = one_place (ap₂ and_then e p) q
    by e (later more p) = later more (ap₂ and_then e p)
    by e (sooner more p) = sooner more (ap₂ and_then (sym e) p)

-- ---- segments that are inside, and how many pieces they have
inside_among : (tin : Triangulation) (before behind : List SheetSegment) (segment : SheetSegment)
    → AreInside tin (before ++ segment ∷ behind) → IsInside tin segment.a segment.b
inside_among tin [] behind segment is = is.0
inside_among tin (first ∷ before) behind segment is = inside_among tin before behind segment is.1

-- as many as the parts of a segment, however it is cut
as_many : (tin : Triangulation) (layer : ℕ) (segment : SheetSegment) (parts : List Part) (own : List Piece)
    → ArePiecesOf tin segment.a segment.b parts → ArePiecesOfSegment tin layer segment own
    → length parts ≡ length own
as_many tin layer segment parts own cut are =
    alike_length parts are.parts (cut_alike tin segment.a segment.b parts are.parts cut are.cut)
    ∙ sym (told_length tin segment.a segment.b (first_place layer segment) are.parts own are.told)

-- so the pieces of segments and the parts of the next one are no more than the pieces of all
pieces_up : (tin : Triangulation) (layer : ℕ) (before behind : List SheetSegment) (segment : SheetSegment)
    (parts : List Part) (own all : List Piece) → ArePiecesOfAll tin layer before own
    → ArePiecesOf tin segment.a segment.b parts → ArePiecesOfAll tin layer (before ++ segment ∷ behind) all
    → length own + length parts ≤ length all
pieces_up tin layer [] behind segment parts own all none cut (here, rest, is, one, others) =
    let empty = ap (λ (ps : List Piece). length ps) none in
    let size = as_many tin layer segment parts here cut one in
    let both = ap (λ (ps : List Piece). length ps) is ∙ length-append here rest in
    omega (arith, empty, size, both)
pieces_up tin layer (first ∷ before) behind segment parts own all (here, left, is, one, others) cut
    (there, rest, also, one', others') =
    let up = pieces_up tin layer before behind segment parts left rest others cut others' in
    let told = told_length tin first.a first.b (first_place layer first) one.parts here one.told in
    let size = as_many tin layer first one.parts there one.cut one' in
    let both = ap (λ (ps : List Piece). length ps) is ∙ length-append here left in
    let both' = ap (λ (ps : List Piece). length ps) also ∙ length-append there rest in
    omega (arith, up, told, size, both, both')

too_few : (old most m k t : ℕ) → most < old + m + k → m + k ≤ t → old + t ≤ most → ⊥
too_few old most m k t full up few = absurd (omega arith)

-- ---- the first segment that is not carried
segment_one : (tin : Triangulation) (before others behind rest : List SheetSegment) (x y : SheetSegment)
    → AreInside tin before → AreInside tin others → (IsInside tin x.a x.b → ⊥) → (IsInside tin y.a y.b → ⊥)
    → before ++ x ∷ behind ≡ others ++ y ∷ rest → x ≡ y
segment_one tin before others behind rest x y inside inside' out out' same =
    by (two_places before others behind rest x y same)
  where
    by : AreTwoPlaces before others x y → x ≡ y
    by (one_place p q) = q
    by (later more p) = absurd (out' (inside_among tin others more y (subst (AreInside tin) p inside)))
    by (sooner more p) = absurd (out (inside_among tin before more x (subst (AreInside tin) p inside')))

pub first_outside_one : (tin : Triangulation) (layer old most : ℕ) (segments : List SheetSegment)
    (path number way count : ℕ) → IsFirstOutside tin layer old most segments path number
    → IsFirstOutside tin layer old most segments way count → (path ≡ way) × (number ≡ count)
first_outside_one tin layer old most segments path number way count x y =
    let p = x.reached in let q = y.reached in
    let room = p.room in let room' = q.room in
    let same = segment_one tin p.before q.before p.behind q.behind x.segment y.segment room.inside room'.inside
    x.outside y.outside (sym p.stands ∙ q.stands) in (
      sym x.path_is ∙ (ap (λ (s : SheetSegment). s.path) same ∙ y.path_is),
      sym x.number_is ∙ (ap (λ (s : SheetSegment). s.number) same ∙ y.number_is),
    )

-- the first that is outside has room before it; the first that finds none is inside
outside_or_full : (tin : Triangulation) (layer old most : ℕ) (before others behind rest : List SheetSegment)
    (x y : SheetSegment) (own pieces : List Piece) (parts : List Part) → AreInside tin others
    → ArePiecesOfAll tin layer before own → ArePiecesOfAll tin layer others pieces
    → ArePiecesOf tin y.a y.b parts → (IsInside tin x.a x.b → ⊥) → IsInside tin y.a y.b → old + length own ≤ most
    → most < old + length pieces + length parts → before ++ x ∷ behind ≡ others ++ y ∷ rest → ⊥
outside_or_full tin layer old most before others behind rest x y own pieces parts inside are are' cut out in_y few full
    same = by (two_places before others behind rest x y same)
  where
    by : AreTwoPlaces before others x y → ⊥
    by (one_place p q) = out (subst (λ (s : SheetSegment). IsInside tin s.a s.b) (sym q) in_y)
    by (later more p) =
        too_few old most (length pieces) (length parts) (length own) full
        (pieces_up tin layer others more y parts pieces own are' cut
        (subst (λ (ss : List SheetSegment). ArePiecesOfAll tin layer ss own) p are)) few
    by (sooner more p) = out (inside_among tin before more x (subst (AreInside tin) p inside))

pub outside_or_many : (tin : Triangulation) (layer old most : ℕ) (segments : List SheetSegment) (path number : ℕ)
    → IsFirstOutside tin layer old most segments path number → IsFirstTooMany tin layer old most segments → ⊥
outside_or_many tin layer old most segments path number x y =
    let p = x.reached in let q = y.reached in
    let room = p.room in let room' = q.room in
    outside_or_full tin layer old most p.before q.before p.behind q.behind x.segment y.segment room.pieces room'.pieces
    y.parts room'.inside room.are room'.are y.cut x.outside y.inside room.room y.full (sym p.stands ∙ q.stands)

pub outside_or_inside : (tin : Triangulation) (layer old most : ℕ) (segments : List SheetSegment) (path number : ℕ)
    → IsFirstOutside tin layer old most segments path number → AreInside tin segments → ⊥
outside_or_inside tin layer old most segments path number x inside =
    let p = x.reached in
    x.outside (inside_among tin p.before p.behind x.segment (subst (AreInside tin) p.stands inside))

pub many_or_room : (tin : Triangulation) (layer old most : ℕ) (segments : List SheetSegment) (own : List Piece)
    → IsFirstTooMany tin layer old most segments → ArePiecesOfAll tin layer segments own → old + length own ≤ most → ⊥
many_or_room tin layer old most segments own x are few =
    let p = x.reached in
    let room = p.room in
    let up = pieces_up tin layer p.before p.behind x.segment x.parts room.pieces own room.are x.cut
    (subst (λ (ss : List SheetSegment). ArePiecesOfAll tin layer ss own) p.stands are) in
    too_few old most (length room.pieces) (length x.parts) (length own) x.full up few

-- what comes after some pieces finds room where all do
pub room_of : (most : ℕ) (before own after : List Piece) → after ≡ before ++ own → length after ≤ most
    → length before + length own ≤ most
room_of most before own after is few =
    let size = ap (λ (ps : List Piece). length ps) is ∙ length-append before own in omega (arith, size, few)
