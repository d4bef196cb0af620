-- How many segments a sheet has.
use Rattle.std.proofs.Common.{◌≡◌, ℕ, zero, suc, ◌+◌, ◌-◌, ◌<◌, min, Bool, true, false, cond, List, [], ◌∷◌}
use Rattle.std.proofs.Common.{map, length, ap, refl, ◌∙◌, arith}
use Rattle.std.specs.List.{range_with_len, count_by}
use Rattle.std.proofs.lemmas.Bool.{ltb-true, ltb-false}
use Rattle.std.proofs.lemmas.List.{length-append}
use Rattle.std.proofs.lemmas.List.Recursion.{is_count_by}
use Rattle.plane_base.specs.declared.shapes.Pt.{Pt}
use Rattle.sheet_base.specs.declared.paths.PathKind.{PathKind}
use Rattle.sheet_base.specs.declared.paths.PathKind.TheVariants.{Dot, Line, Loop}
use Rattle.sheet_base.specs.declared.paths.PathRow.{PathRow}
use Rattle.sheet_base.specs.PointHeights.{Height}
use Rattle.sheet_base.specs.Segments.{segments_of, segments_in}
use Rattle.sheet_base.specs.Sheets.{Contents, IsPathFrom, AreTiled, IsSheet}
use Rattle.sheet_pieces.specs.SheetSegments.{SheetSegment, vertex_at, path_vertices, vertices_from}
use Rattle.sheet_pieces.specs.SheetSegments.{segments_begun, sheet_segments}
use Rattle.sheet_pieces.proofs.PathSegments.{begun_append}
use Rattle.sheet_pieces.specs.SheetSegments.{ends_open_of, ends_open}
use Rattle.sheet_pieces.proofs.PathVertices.{few}

-- ---- the segments of a path
-- some vertices of a path from the one of number k on: each whose number is below that of the segments begins one
begun_from : (points : List Pt) (heights : List Height) (path : ℕ) (row : PathRow) (k n : ℕ)
    → length (segments_begun (map (vertex_at points heights path row) (range_with_len k n)))
    ≡ min n (segments_in row - k)
begun_from points heights path row k zero = omega arith
begun_from points heights path row k (suc n) =
    grind (arith, ltb-true, ltb-false, (begun_from points heights path row (k + 1) n))

pub begun_in : (points : List Pt) (heights : List Height) (path : ℕ) (row : PathRow) → IsPathFrom row.first row
    → length (segments_begun (path_vertices points heights path row)) ≡ segments_in row
begun_in points heights path row from = grind (arith, few, begun_from)

-- ---- the points that begin none
opens : (kind : PathKind) (n : ℕ) → 0 < n → (kind ≡ Dot → n ≡ 1)
    → segments_of kind n + cond (ends_open_of kind n) 1 0 ≡ n
opens Dot n h dot = let e = dot refl in omega arith
opens Line n h dot = grind (arith, ltb-true, ltb-false)
opens Loop n h dot = omega arith

path_opens : (row : PathRow) → IsPathFrom row.first row
    → segments_in row + cond (ends_open row) 1 0 ≡ row.past - row.first
path_opens row path = grind (arith, opens)

abbrev open_in : List PathRow → ℕ
open_in [] = 0
open_in (row ∷ rows) = cond (ends_open row) (1 + open_in rows) (open_in rows)

-- ---- the segments of paths
begun_of : (points : List Pt) (heights : List Height) (n : ℕ) (rows : List PathRow) (first past : ℕ)
    → AreTiled rows first past
    → first + (length (segments_begun (vertices_from points heights n rows)) + open_in rows) ≡ past
begun_of points heights n [] first past e = grind arith
begun_of points heights n (row ∷ rows) first past h =
    let path = h.0 in
    let rest = segments_begun (vertices_from points heights (n + 1) rows) in
    let from : IsPathFrom row.first row = record { begins = refl; some = path.some; dot = path.dot } in
    let all = ap (λ (ss : List SheetSegment). length ss)
    (begun_append (path_vertices points heights n row) (vertices_from points heights (n + 1) rows))
    ∙ length-append (segments_begun (path_vertices points heights n row)) rest in
    go (ends_open row) (length (segments_begun (vertices_from points heights n (row ∷ rows))))
    (length (segments_begun (path_vertices points heights n row))) (segments_in row) (length rest) (open_in rows) all
    (begun_in points heights n row from) (path_opens row from) path.begins path.some
    (begun_of points heights (n + 1) rows row.past past h.1)
  where
    go : (b : Bool) (l m s k o : ℕ) → l ≡ m + k → m ≡ s → s + cond b 1 0 ≡ row.past - row.first → row.first ≡ first
        → row.first < row.past → row.past + (k + o) ≡ past → first + (l + cond b (1 + o) o) ≡ past
    go true l m s k o e f g begins some rest = omega arith
    go false l m s k o e f g begins some rest = omega arith

pub begun_by_points : (sheet : Contents) → IsSheet sheet
    → length (sheet_segments sheet) + count_by ends_open sheet.paths ≡ length sheet.points
begun_by_points sheet is = counted (length (sheet_segments sheet)) (open_in sheet.paths)
    (count_by ends_open sheet.paths) (length sheet.points)
    (begun_of sheet.points sheet.heights 0 sheet.paths 0 (length sheet.points) is.tiled)
    (is_count_by open_in ends_open refl (λ row rows. refl) sheet.paths)
  where
    counted : (l m n p : ℕ) → 0 + (l + m) ≡ p → m ≡ n → l + n ≡ p
    counted l m n p e f = omega arith
