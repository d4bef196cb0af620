-- The vertices of a path, one after the other.
use Rattle.std.proofs.Common.{◌≡◌, ℕ, suc, ◌+◌, ◌-◌, ◌<◌, ◌≤◌, Bool, false, cond, ltb, List, [], ◌∷◌, ◌++◌, Option}
use Rattle.std.proofs.Common.{Some, None, map, take, drop, take-append-drop, ap, ap₂, refl, sym, ◌∙◌, subst, arith}
use Rattle.std.specs.List.{range_with_len, cons_option}
use Rattle.std.proofs.Math.Seq.{drop-cons}
use Rattle.std.proofs.lemmas.Bool.{lt-ltb}
use Rattle.std.proofs.lemmas.List.FromFn.{length-map-range_with_len, take-map-range_with_len, map-range_with_len_more}
use Rattle.std.proofs.lemmas.List.FromFn.{get_or-map-range_with_len}
use Rattle.plane_base.specs.declared.shapes.Pt.{Pt}
use Rattle.sheet_base.specs.declared.paths.PathKind.{PathKind}
use Rattle.sheet_base.specs.declared.paths.PathKind.TheVariants.{Dot, Line, Loop}
use Rattle.sheet_base.specs.declared.paths.PathRow.{PathRow}
use Rattle.sheet_base.specs.PointHeights.{Height}
use Rattle.sheet_base.specs.Segments.{points_in, segments_of, segments_in, point_at, begin_of, end_of}
use Rattle.sheet_base.specs.Sheets.{IsPathFrom}
use Rattle.sheet_pieces.specs.SheetSegments.{SheetSegment, PathVertex, segment_at, vertex_at, path_vertices}
use Rattle.sheet_pieces.specs.SheetSegments.{segments_begun}
use Rattle.sheet_pieces.proofs.PathSegments.{begun_append}

-- ---- how many segments
pub record AreFew (segments points : ℕ) : Type 0 where
  pub some : 0 < segments
  pub upto : segments ≤ points
  pub least : points ≤ segments + 1

few_of : (kind : PathKind) (n : ℕ) → 0 < n → (kind ≡ Dot → n ≡ 1) → AreFew (segments_of kind n) n
few_of Dot n h dot = let e = dot refl in record { some = omega arith; upto = omega arith; least = omega arith }
few_of Line n h dot = record { some = omega arith; upto = omega arith; least = omega arith }
few_of Loop n h dot = record { some = h; upto = omega arith; least = omega arith }

pub few : (row : PathRow) → IsPathFrom row.first row → AreFew (segments_in row) (points_in row)
few row path = grind (arith, few_of)

-- ---- the vertices so far
abbrev pub first_vertices : List Pt → List Height → ℕ → PathRow → ℕ → List PathVertex
first_vertices points heights path row j = map (vertex_at points heights path row) (range_with_len 0 j)

pub one_vertex_more : (points : List Pt) (heights : List Height) (path : ℕ) (row : PathRow) (j : ℕ)
    → first_vertices points heights path row (j + 1) ≡ first_vertices points heights path row j
    ++ vertex_at points heights path row j ∷ []
one_vertex_more points heights path row j =
    map-range_with_len_more (vertex_at points heights path row) 0 j j (omega arith)

pub begins_one : (points : List Pt) (heights : List Height) (path : ℕ) (row : PathRow) (j : ℕ) → j < segments_in row
    → (vertex_at points heights path row j).segment ≡ Some (segment_at points heights path row j)
begins_one points heights path row j h = ap (λ (b : Bool). cond b (Some (segment_at points heights path row j)) None)
    (lt-ltb j (segments_in row) h)

not_below : (j n : ℕ) → n ≤ j → ltb j n ≡ false
not_below j n h = grind arith

pub begins_none : (points : List Pt) (heights : List Height) (path : ℕ) (row : PathRow) (j : ℕ) → segments_in row ≤ j
    → (vertex_at points heights path row j).segment ≡ None
begins_none points heights path row j h = ap (λ (b : Bool). cond b (Some (segment_at points heights path row j)) None)
    (not_below j (segments_in row) h)

pub in_points : (row : PathRow) (j : ℕ) → IsPathFrom row.first row → j < segments_in row → j < points_in row
in_points row j path h = grind (arith, few)

-- ---- the points of a path
pub first_point_is : (points : List Pt) (n : ℕ) → point_at points n ≡ point_at points (n + 0)
first_point_is points n = ap (λ (m : ℕ). point_at points m) (omega arith)

pub next_begins : (points : List Pt) (row : PathRow) (j : ℕ) → j + 1 < points_in row
    → end_of points row j ≡ begin_of points row (j + 1)
next_begins points row j h = grind (arith, lt-ltb)

-- ---- the segments around one
pub split_at : (points : List Pt) (heights : List Height) (path : ℕ) (row : PathRow) (j : ℕ) → IsPathFrom row.first row
    → j < segments_in row
    → segments_begun (path_vertices points heights path row) ≡ segments_begun (first_vertices points heights path row j)
    ++ ((segment_at points heights path row j ∷ [])
    ++ segments_begun (drop (suc j) (path_vertices points heights path row)))
split_at points heights path row j from h =
    ap segments_begun (sym (take-append-drop j (path_vertices points heights path row)))
    ∙ begun_append (take j (path_vertices points heights path row)) (drop j (path_vertices points heights path row))
    ∙ ap₂ (λ (vs ws : List PathVertex). segments_begun vs ++ segments_begun ws)
    (take-map-range_with_len (vertex_at points heights path row) 0 (points_in row) j up)
    (drop-cons (path_vertices points heights path row) j (vertex_at points heights path row j)
    (subst (λ (n : ℕ). j < n) (sym (length-map-range_with_len (vertex_at points heights path row) 0 (points_in row)))
    here)
    ∙ ap (λ (v : PathVertex). v ∷ drop (suc j) (path_vertices points heights path row))
    (get_or-map-range_with_len (vertex_at points heights path row) 0 (points_in row) j j
    (vertex_at points heights path row j) here
    (omega arith)))
    ∙ ap (λ (s : Option SheetSegment). segments_begun (first_vertices points heights path row j)
    ++ cons_option s (segments_begun (drop (suc j) (path_vertices points heights path row))))
    (begins_one points heights path row j h)
  where
    here : j < points_in row
    here = let f = few row from in within (segments_in row) (points_in row) h f.upto
      where
        within : (m n : ℕ) → j < m → m ≤ n → j < n
        within m n h k = omega arith

    up : j ≤ points_in row
    up = below (points_in row) here
      where
        below : (n : ℕ) → j < n → j ≤ n
        below n h = omega arith
