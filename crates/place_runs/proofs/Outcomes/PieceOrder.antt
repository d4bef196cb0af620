-- The pieces of a run have different places: they are in order by the layer, the path, the segment and the piece.
use Rattle.std.proofs.Common.{◌≡◌, ◌⊎◌, inl, inr, ℕ, zero, suc, ◌+◌, ◌<◌, ◌≤◌, Bool, true, false, List, [], ◌∷◌, ◌++◌}
use Rattle.std.proofs.Common.{length, map, get_or, if◌then◌else◌, None, Some, sym, ◌∙◌, ap}
use Rattle.std.proofs.Common.{subst, arith}
use Rattle.std.specs.List.{cons_option, range_with_len}
use Rattle.plane_base.specs.declared.shapes.Pt.{Pt}
use Rattle.sheet_base.specs.declared.paths.PathRow.{PathRow}
use Rattle.sheet_base.specs.PointHeights.{Height}
use Rattle.sheet_base.specs.Segments.{points_in}
use Rattle.sheet_base.specs.Sheets.{Contents}
use Rattle.tin_base.specs.declared.pieces.Piece.{Piece}
use Rattle.tin_base.specs.declared.pieces.Place.{Place}
use Rattle.tin_base.specs.Segments.{Part}
use Rattle.tin_base.specs.Triangulation.{Triangulation}
use Rattle.sheet_pieces.specs.SheetSegments.{SheetSegment, vertex_at, path_vertices, vertices_from}
use Rattle.sheet_pieces.specs.SheetSegments.{segments_begun, sheet_segments}
use Rattle.sheet_pieces.specs.SheetPieces.{next_place, first_place, AreTold, ArePiecesOfAll}
use Rattle.sheet_pieces.specs.SheetPieces.{ArePiecesOfSheet}
use Rattle.migrate_mode.specs.LayerRuns.{Setting, Done, AreCarried}
use Rattle.place_runs.specs.InsideMaps.{IsEachOne}
use Rattle.sheet_pieces.proofs.PathSegments.{begun_append}

-- ---- the segments of a sheet
-- each is of this path, and numbered from this number on
abbrev pub InPath : ℕ → ℕ → List SheetSegment → Type 0
InPath path from [] = Unit {0}
InPath path from (s ∷ ss) = ((s.path ≡ path) × (from ≤ s.number)) × InPath path from ss

-- each is of this path or of a later one
abbrev FromPath : ℕ → List SheetSegment → Type 0
FromPath path [] = Unit {0}
FromPath path (s ∷ ss) = (path ≤ s.path) × FromPath path ss

-- the second comes after the first, by the path and the number
abbrev IsBehind : SheetSegment → SheetSegment → Type 0
IsBehind s t = (s.path < t.path) ⊎ ((s.path ≡ t.path) × (s.number < t.number))

abbrev AllBehind : SheetSegment → List SheetSegment → Type 0
AllBehind s [] = Unit {0}
AllBehind s (t ∷ ts) = IsBehind s t × AllBehind s ts

abbrev AreAscending : List SheetSegment → Type 0
AreAscending [] = Unit {0}
AreAscending (s ∷ ss) = AllBehind s ss × AreAscending ss

in_later : (path n : ℕ) (ss : List SheetSegment) → InPath path (n + 1) ss → InPath path n ss
in_later path n [] h = tt
in_later path n (s ∷ ss) h = ((h.0.0, omega (arith, h.0.1)), in_later path n ss h.1)

in_from : (path n : ℕ) (ss : List SheetSegment) → InPath path n ss → FromPath path ss
in_from path n [] h = tt
in_from path n (s ∷ ss) h = (omega (arith, h.0.0), in_from path n ss h.1)

from_later : (path : ℕ) (ss : List SheetSegment) → FromPath (path + 1) ss → FromPath path ss
from_later path [] h = tt
from_later path (s ∷ ss) h = (omega (arith, h.0), from_later path ss h.1)

from_join : (path : ℕ) (xs ys : List SheetSegment) → FromPath path xs → FromPath path ys → FromPath path (xs ++ ys)
from_join path [] ys h k = k
from_join path (x ∷ xs) ys h k = (h.0, from_join path xs ys h.1 k)

put_in : (path n : ℕ) (b : Bool) (s : SheetSegment) (rest : List SheetSegment) → (s.path ≡ path) × (n ≤ s.number)
    → InPath path n rest → InPath path n (cons_option (if b then Some s else None) rest)
put_in path n true s rest is h = (is, h)
put_in path n false s rest is h = h

pub begun_in : (points : List Pt) (heights : List Height) (path : ℕ) (row : PathRow) (n m : ℕ)
    → InPath path n (segments_begun (map (vertex_at points heights path row) (range_with_len n m)))
begun_in points heights path row n zero = tt
begun_in points heights path row n (suc m) =
    grind (arith, put_in, in_later, (begun_in points heights path row (n + 1) m))

behind_in : (s : SheetSegment) (rest : List SheetSegment) → InPath s.path (s.number + 1) rest → AllBehind s rest
behind_in s [] h = tt
behind_in s (t ∷ ts) h = (inr (sym h.0.0, omega (arith, h.0.1)), behind_in s ts h.1)

put_ascending : (b : Bool) (s : SheetSegment) (rest : List SheetSegment) → InPath s.path (s.number + 1) rest
    → AreAscending rest
    → AreAscending (cons_option (if b then Some s else None) rest)
put_ascending true s rest h asc = (behind_in s rest h, asc)
put_ascending false s rest h asc = asc

begun_ascending : (points : List Pt) (heights : List Height) (path : ℕ) (row : PathRow) (n m : ℕ)
    → AreAscending (segments_begun (map (vertex_at points heights path row) (range_with_len n m)))
begun_ascending points heights path row n zero = tt
begun_ascending points heights path row n (suc m) =
    grind (arith, put_ascending, begun_in, (begun_ascending points heights path row (n + 1) m))

vertices_in : (points : List Pt) (heights : List Height) (path : ℕ) (rows : List PathRow)
    → FromPath path (segments_begun (vertices_from points heights path rows))
vertices_in points heights path [] = tt
vertices_in points heights path (row ∷ rows) =
    grind (arith, begun_append, from_join, in_from, begun_in, from_later, (vertices_in points heights (path + 1) rows))

behind_from : (s : SheetSegment) (ys : List SheetSegment) → FromPath (s.path + 1) ys → AllBehind s ys
behind_from s [] h = tt
behind_from s (y ∷ ys) h = (inl (omega (arith, h.0)), behind_from s ys h.1)

behind_join : (s : SheetSegment) (xs ys : List SheetSegment) → AllBehind s xs → AllBehind s ys → AllBehind s (xs ++ ys)
behind_join s [] ys h k = k
behind_join s (x ∷ xs) ys h k = (h.0, behind_join s xs ys h.1 k)

ascending_join : (path n : ℕ) (xs ys : List SheetSegment) → InPath path n xs → AreAscending xs → FromPath (path + 1) ys
    → AreAscending ys → AreAscending (xs ++ ys)
ascending_join path n [] ys in_xs asc from later = later
ascending_join path n (x ∷ xs) ys in_xs asc from later =
    grind (arith, behind_join, behind_from, (ascending_join path n xs ys in_xs.1 asc.1 from later))

vertices_ascending : (points : List Pt) (heights : List Height) (path : ℕ) (rows : List PathRow)
    → AreAscending (segments_begun (vertices_from points heights path rows))
vertices_ascending points heights path [] = tt
vertices_ascending points heights path (row ∷ rows) =
    subst (λ (ss : List SheetSegment). AreAscending ss)
    (sym (begun_append (path_vertices points heights path row) (vertices_from points heights (path + 1) rows)))
    (ascending_join path 0 (segments_begun (path_vertices points heights path row))
    (segments_begun (vertices_from points heights (path + 1) rows)) (begun_in points heights path row 0 (points_in row))
    (begun_ascending points heights path row 0 (points_in row))
    (vertices_in points heights (path + 1) rows) (vertices_ascending points heights (path + 1) rows))

-- ---- pieces with different places
-- no piece has this place
abbrev NonePlaced : Place → List Piece → Type 0
NonePlaced place [] = Unit {0}
NonePlaced place (q ∷ qs) = (q.from ≡ place → ⊥) × NonePlaced place qs

abbrev AreApart : List Piece → Type 0
AreApart [] = Unit {0}
AreApart (p ∷ ps) = NonePlaced p.from ps × AreApart ps

none_join : (place : Place) (xs ys : List Piece) → NonePlaced place xs → NonePlaced place ys
    → NonePlaced place (xs ++ ys)
none_join place [] ys h k = k
none_join place (x ∷ xs) ys h k = (h.0, none_join place xs ys h.1 k)

-- ---- of one segment
-- each is of the layer, the path and the segment of this place, and numbered from its piece on
abbrev pub FromPlace : Place → List Piece → Type 0
FromPlace from [] = Unit {0}
FromPlace from (p ∷ ps) = ((p.from.layer ≡ from.layer) × (p.from.path ≡ from.path) × (p.from.segment ≡ from.segment)
    × (from.piece ≤ p.from.piece)) × FromPlace from ps

place_later : (from : Place) (ps : List Piece) → FromPlace (next_place from) ps → FromPlace from ps
place_later from [] h = tt
place_later from (p ∷ ps) h = ((h.0.0, h.0.1, h.0.2, omega (arith, h.0.3)), place_later from ps h.1)

none_later : (from : Place) (ps : List Piece) → FromPlace (next_place from) ps → NonePlaced from ps
none_later from [] h = tt
none_later from (p ∷ ps) h = grind (arith, (none_later from ps h.1))

pub told_from : (tin : Triangulation) (a b : Pt) (from : Place) (parts : List Part) (ps : List Piece)
    → AreTold tin a b from parts ps → FromPlace from ps
told_from tin a b from [] [] told = tt
told_from tin a b from [] (p ∷ ps) told = absurd told
told_from tin a b from (part ∷ parts) [] told = absurd told
told_from tin a b from (part ∷ parts) (p ∷ ps) told =
    grind (arith, place_later, (told_from tin a b (next_place from) parts ps told.1))

told_apart : (tin : Triangulation) (a b : Pt) (from : Place) (parts : List Part) (ps : List Piece)
    → AreTold tin a b from parts ps → AreApart ps
told_apart tin a b from [] [] told = tt
told_apart tin a b from [] (p ∷ ps) told = absurd told
told_apart tin a b from (part ∷ parts) [] told = absurd told
told_apart tin a b from (part ∷ parts) (p ∷ ps) told =
    grind (arith, none_later, told_from, (told_apart tin a b (next_place from) parts ps told.1))

-- ---- of the segments of one layer
-- each is of this layer, and of a segment after this one
abbrev BehindSegment : ℕ → SheetSegment → List Piece → Type 0
BehindSegment layer s [] = Unit {0}
BehindSegment layer s (q ∷ qs) = ((q.from.layer ≡ layer)
    × ((s.path < q.from.path) ⊎ ((s.path ≡ q.from.path) × (s.number < q.from.segment)))) × BehindSegment layer s qs

abbrev OfLayer : ℕ → List Piece → Type 0
OfLayer layer [] = Unit {0}
OfLayer layer (q ∷ qs) = (q.from.layer ≡ layer) × OfLayer layer qs

of_join : (layer : ℕ) (xs ys : List Piece) → OfLayer layer xs → OfLayer layer ys → OfLayer layer (xs ++ ys)
of_join layer [] ys h k = k
of_join layer (x ∷ xs) ys h k = (h.0, of_join layer xs ys h.1 k)

of_place : (from : Place) (ps : List Piece) → FromPlace from ps → OfLayer from.layer ps
of_place from [] h = tt
of_place from (p ∷ ps) h = (h.0.0, of_place from ps h.1)

move_behind : (s t : SheetSegment) (path segment : ℕ) → IsBehind s t → path ≡ t.path → segment ≡ t.number
    → (s.path < path) ⊎ ((s.path ≡ path) × (s.number < segment))
move_behind s t path segment (inl h) is same = inl (omega (arith, h, is))
move_behind s t path segment (inr (e, h)) is same = inr (e ∙ sym is, omega (arith, h, same))

segment_behind : (layer : ℕ) (s t : SheetSegment) (own rest : List Piece) → IsBehind s t
    → FromPlace (first_place layer t) own → BehindSegment layer s rest → BehindSegment layer s (own ++ rest)
segment_behind layer s t [] rest is h k = k
segment_behind layer s t (p ∷ own) rest is h k =
    ((h.0.0, move_behind s t p.from.path p.from.segment is h.0.1 h.0.2), segment_behind layer s t own rest is h.1 k)

all_behind : (tin : Triangulation) (layer : ℕ) (s : SheetSegment) (segments : List SheetSegment) (ps : List Piece)
    → AllBehind s segments → ArePiecesOfAll tin layer segments ps → BehindSegment layer s ps
all_behind tin layer s [] ps behind is = subst (λ (qs : List Piece). BehindSegment layer s qs) (sym is) tt
all_behind tin layer s (t ∷ segments) ps behind (own, rest, is, here, others) =
    grind (arith, segment_behind, told_from, (all_behind tin layer s segments rest behind.1 others))

all_of : (tin : Triangulation) (layer : ℕ) (segments : List SheetSegment) (ps : List Piece)
    → ArePiecesOfAll tin layer segments ps → OfLayer layer ps
all_of tin layer [] ps is = subst (λ (qs : List Piece). OfLayer layer qs) (sym is) tt
all_of tin layer (t ∷ segments) ps (own, rest, is, here, others) =
    subst (λ (qs : List Piece). OfLayer layer qs) (sym is)
    (of_join layer own rest (of_place (first_place layer t) own
    (told_from tin t.a t.b (first_place layer t) here.parts own here.told)) (all_of tin layer segments rest others))

none_behind : (layer : ℕ) (s : SheetSegment) (place : Place) (rest : List Piece) → place.path ≡ s.path
    → place.segment ≡ s.number → BehindSegment layer s rest → NonePlaced place rest
none_behind layer s place [] path segment h = tt
none_behind layer s place (q ∷ rest) path segment h = grind (arith, (none_behind layer s place rest path segment h.1))

segment_apart : (layer : ℕ) (s : SheetSegment) (own rest : List Piece) → FromPlace (first_place layer s) own
    → AreApart own
    → BehindSegment layer s rest → AreApart rest → AreApart (own ++ rest)
segment_apart layer s [] rest from apart behind others = others
segment_apart layer s (p ∷ own) rest from apart behind others =
    grind (arith, none_join, none_behind, (segment_apart layer s own rest from.1 apart.1 behind others))

all_apart : (tin : Triangulation) (layer : ℕ) (segments : List SheetSegment) (ps : List Piece) → AreAscending segments
    → ArePiecesOfAll tin layer segments ps → AreApart ps
all_apart tin layer [] ps asc is = subst (λ (qs : List Piece). AreApart qs) (sym is) tt
all_apart tin layer (s ∷ segments) ps asc (own, rest, is, here, others) =
    grind (arith, segment_apart, told_from, told_apart, all_behind, (all_apart tin layer segments rest asc.1 others))

sheet_apart : (tin : Triangulation) (layer : ℕ) (sheet : Contents) (ps : List Piece)
    → ArePiecesOfSheet tin layer sheet ps → AreApart ps
sheet_apart tin layer sheet ps is = all_apart tin layer (sheet_segments sheet) ps
    (vertices_ascending sheet.points sheet.heights 0 sheet.paths) is

-- ---- of all layers
-- each is of a layer before this one
abbrev BelowLayer : ℕ → List Piece → Type 0
BelowLayer layer [] = Unit {0}
BelowLayer layer (q ∷ qs) = (q.from.layer < layer) × BelowLayer layer qs

below_join : (layer : ℕ) (xs ys : List Piece) → BelowLayer layer xs → OfLayer layer ys
    → BelowLayer (layer + 1) (xs ++ ys)
below_join layer [] [] h k = tt
below_join layer [] (y ∷ ys) h k = (omega (arith, k.0), below_join layer [] ys tt k.1)
below_join layer (x ∷ xs) ys h k = (omega (arith, h.0), below_join layer xs ys h.1 k)

none_of : (layer : ℕ) (place : Place) (ys : List Piece) → place.layer < layer → OfLayer layer ys → NonePlaced place ys
none_of layer place [] less h = tt
none_of layer place (y ∷ ys) less h = grind (arith, (none_of layer place ys less h.1))

layer_apart : (layer : ℕ) (xs ys : List Piece) → BelowLayer layer xs → AreApart xs → OfLayer layer ys → AreApart ys
    → AreApart (xs ++ ys)
layer_apart layer [] ys below apart of others = others
layer_apart layer (x ∷ xs) ys below apart of others =
    grind (arith, none_join, none_of, (layer_apart layer xs ys below.1 apart.1 of others))

carried_apart : (setting : Setting) (number used : ℕ) (before : List Piece) (names : List (List ℕ)) (after : List Piece)
    (done : List Done) (total : ℕ) → BelowLayer number before → AreApart before
    → AreCarried setting number used before names after done total → AreApart after
carried_apart setting number used before [] after done total below apart (is, none, sum) =
    subst (λ (qs : List Piece). AreApart qs) (sym is) apart
carried_apart setting number used before (name ∷ names) after done total below apart
    (bytes, pieces, first, rest, next, are, others) =
    let carried = next.carried in
    let layer = carried.layer in
    carried_apart setting (number + 1) (used + length bytes) pieces names after rest total
    (subst (λ (qs : List Piece). BelowLayer (number + 1) qs) (sym layer.stand)
    (below_join number before layer.own below
    (all_of setting.tin number (sheet_segments layer.sheet) layer.own layer.are_pieces)))
    (subst (λ (qs : List Piece). AreApart qs) (sym layer.stand)
    (layer_apart number before layer.own below apart
    (all_of setting.tin number (sheet_segments layer.sheet) layer.own layer.are_pieces)
    (sheet_apart setting.tin number layer.sheet layer.own layer.are_pieces)))
    others

-- ---- so a place is that of one piece
never_placed : (place : Place) (ps : List Piece) (q : Piece) (k : ℕ) → NonePlaced place ps → k < length ps
    → get_or ps k q ≡ q → q.from ≡ place → ⊥
never_placed place [] q k none within is from = omega (arith, within)
never_placed place (p ∷ ps) q zero none within is from = none.0 (ap (λ (r : Piece). r.from) is ∙ from)
never_placed place (p ∷ ps) q (suc k) none within is from =
    never_placed place ps q k none.1 (omega (arith, within)) is from

apart_one : (ps : List Piece) (place : Place) (p q : Piece) (i j : ℕ) → AreApart ps → i < length ps → get_or ps i p ≡ p
    → p.from ≡ place → j < length ps → get_or ps j q ≡ q → q.from ≡ place → p ≡ q
apart_one [] place p q i j apart within is from inside same also = absurd (omega (arith, within))
apart_one (x ∷ xs) place p q zero zero apart within is from inside same also = sym is ∙ same
apart_one (x ∷ xs) place p q zero (suc j) apart within is from inside same also = grind (arith, never_placed)
apart_one (x ∷ xs) place p q (suc i) zero apart within is from inside same also = grind (arith, never_placed)
apart_one (x ∷ xs) place p q (suc i) (suc j) apart within is from inside same also =
    apart_one xs place p q i j apart.1 (omega (arith, within)) is from (omega (arith, inside)) same also

pub one_piece : (setting : Setting) (names : List (List ℕ)) (pieces : List Piece) (done : List Done) (used : ℕ)
    → AreCarried setting 0 0 [] names pieces done used → IsEachOne pieces
one_piece setting names pieces done used carried place p q x y = grind (arith, apart_one, carried_apart)
