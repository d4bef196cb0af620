-- The heights of the images of a sheet, by the place of each image in its run.
use Rattle.std.proofs.Common.{◌≡◌, ◌⊎◌, inl, inr, ℕ, zero, suc, ◌+◌, ◌-◌, ◌<◌, ◌≤◌, List}
use Rattle.std.proofs.Common.{[]}
use Rattle.std.proofs.Common.{◌∷◌, ◌++◌, Option, Some, None, map, take, length, get_or, ap, refl, sym, ◌∙◌, subst}
use Rattle.std.proofs.Common.{arith}
use Rattle.std.specs.List.{cons_option}
use Rattle.std.specs.Option.{is_some}
use Rattle.std.specs.Prelude.{◌&&◌}
use Rattle.std.proofs.Math.ListN.{get_or-append}
use Rattle.std.proofs.lemmas.List.{get_or-append-add, length-append, length-map, take-map}
use Rattle.std.proofs.lemmas.List.FromFn.{length-map-range_with_len, get_or-map-range_with_len}
use Rattle.std.proofs.lemmas.Bool.{cases_lt}
use Rattle.plane_base.specs.declared.shapes.Pt.{Pt}
use Rattle.sheet_base.specs.declared.paths.PathRow.{PathRow}
use Rattle.sheet_base.specs.PointHeights.{Height, Position, heights_of, height_in}
use Rattle.sheet_base.specs.Segments.{points_in}
use Rattle.sheet_base.specs.Sheets.{AreTiled}
use Rattle.tin_base.specs.Triangulation.{Triangulation}
use Rattle.tin_base.specs.Soundness.{IsSound}
use Rattle.tin_base.specs.Segments.{IsInside}
use Rattle.sheet_pieces.specs.SheetSegments.{SheetSegment, PathVertex, vertex_at, path_vertices, vertices_from}
use Rattle.sheet_pieces.specs.SheetSegments.{segments_begun}
use Rattle.sheet_pieces.specs.SheetPieces.{AreInside}
use Rattle.sheet_pieces.specs.SheetImages.{IsRun, AreRuns, joined_runs}
use Rattle.sheet_pieces.proofs.SpotHeights.{crossing_some}
use Rattle.sheet_pieces.proofs.PlaneRuns.{joined_items}

-- ---- the vertex of each point
pub vertex_height : (points : List Pt) (heights : List Height) (n : ℕ) (rows : List PathRow) (first past k : ℕ)
    (d : PathVertex) → AreTiled rows first past → k + first < past
    → (get_or (vertices_from points heights n rows) k d).height ≡ height_in heights (k + first)
vertex_height points heights n [] first past k d tiled h = absurd (omega (arith, tiled, h))
vertex_height points heights n (row ∷ rows) first past k d tiled h =
    by (cases_lt k (points_in row)) (λ m below. vertex_height points heights (n + 1) rows row.past past m d tiled.1
    below)
  where
    front : List PathVertex
    front = path_vertices points heights n row

    count : length front ≡ points_in row
    count = length-map-range_with_len (vertex_at points heights n row) 0 (points_in row)

    by : (k < points_in row) ⊎ (points_in row ≤ k)
        → ((m : ℕ) → m + row.past < past
        → (get_or (vertices_from points heights (n + 1) rows) m d).height ≡ height_in heights (m + row.past))
        → (get_or (vertices_from points heights n (row ∷ rows)) k d).height ≡ height_in heights (k + first)
    by (inl here) later = grind (arith, get_or-append, front, count, get_or-map-range_with_len)
    by (inr there) later =
        let path = tiled.0 in
        let begins = path.begins in
        let some = path.some in
        let m = k - points_in row in
        let split : k ≡ length front + m = omega (arith, count, there) in
        let moved : m + row.past ≡ k + first = omega (arith, there, begins, some) in
        ap (λ (v : PathVertex). v.height)
        (ap (λ (i : ℕ). get_or (front ++ vertices_from points heights (n + 1) rows) i d) split
        ∙ get_or-append-add front (vertices_from points heights (n + 1) rows) m d)
        ∙ later m (omega (arith, moved, h))
        ∙ ap (height_in heights) moved

-- the segment of a vertex is inside
pub vertex_inside : (tin : Triangulation) (vs : List PathVertex) (k : ℕ) (d : PathVertex) (segment : SheetSegment)
    → AreInside tin (segments_begun vs) → k < length vs → (get_or vs k d).segment ≡ Some segment
    → IsInside tin segment.a segment.b
vertex_inside tin [] k d segment inside h e = absurd (omega (arith, h))
vertex_inside tin (v ∷ vs) zero d segment inside h e =
    (subst (λ (s : Option SheetSegment). AreInside tin (cons_option s (segments_begun vs))) e inside).0
vertex_inside tin (v ∷ vs) (suc k) d segment inside h e =
    vertex_inside tin vs k d segment (behind v.segment inside) (omega (arith, h)) e
  where
    behind : (s : Option SheetSegment) → AreInside tin (cons_option s (segments_begun vs))
        → AreInside tin (segments_begun vs)
    behind None inside = inside
    behind (Some s) inside = inside.1

-- ---- the heights of a run
-- that of the vertex, in front
pub first_height : (tin : Triangulation) (v : PathVertex) (run : List Position) → IsRun tin v run
    → height_in (heights_of run) 0 ≡ v.height
first_height tin v [] is = absurd is
first_height tin v (image ∷ images) (own, high, crossings) = high

-- and those of crossings
pub later_height : (tin : Triangulation) (v : PathVertex) (run : List Position) (segment : SheetSegment) (m : ℕ)
    → IsSound tin → IsInside tin segment.a segment.b → v.segment ≡ Some segment → IsRun tin v run
    → suc m < length run
    → is_some (height_in (heights_of run) (suc m)) ≡ (is_some segment.heights.from && is_some segment.heights.to)
later_height tin v [] segment m sound inside e is h = absurd is
later_height tin v (image ∷ images) segment m sound inside e (own, high, crossings) h =
    grind (arith, crossing_some, length-map)

-- a vertex that begins no segment has no image after its own
pub alone_height : (tin : Triangulation) (v : PathVertex) (run : List Position) (m : ℕ) → v.segment ≡ None
    → IsRun tin v run → suc m < length run → ⊥
alone_height tin v [] m e is h = is
alone_height tin v (image ∷ images) m e (own, high, crossings) h = grind arith

-- ---- the heights of all runs, one after the other
pub height_at_run : (runs : List (List Position)) (k m : ℕ) → k < length runs → m < length (get_or runs k [])
    → height_in (heights_of (joined_runs runs)) (length (joined_runs (take k runs)) + m)
    ≡ height_in (heights_of (get_or runs k [])) m
height_at_run runs k m h below =
    let high = λ (run : List Position). heights_of run in
    let size : length (joined_runs (take k runs)) ≡ length (joined_runs (take k (map high runs))) =
    sym (length-map (joined_runs (take k runs)) (λ (position : Position). position.height))
    ∙ ap (λ (hs : List Height). length hs) (sym (joined_items (λ (position : Position). position.height) (take k runs))
    ∙ ap joined_runs (sym (take-map high k runs))) in
    ap (λ (hs : List Height). height_in hs (length (joined_runs (take k runs)) + m))
    (sym (joined_items (λ (position : Position). position.height) runs))
    ∙ ap (λ (n : ℕ). height_in (joined_runs (map high runs)) (n + m)) size
    ∙ mapped runs k m h below
  where
    mapped : (runs : List (List Position)) (k m : ℕ) → k < length runs → m < length (get_or runs k [])
        → height_in (joined_runs (map (λ (run : List Position). heights_of run) runs))
        (length (joined_runs (take k (map (λ (run : List Position). heights_of run) runs))) + m)
        ≡ height_in (heights_of (get_or runs k [])) m
    mapped [] k m h below = absurd (omega (arith, h))
    mapped (run ∷ runs) zero m h below = grind (arith, get_or-append, length-map)
    mapped (run ∷ runs) (suc k) m h below =
        grind (arith, length-append, get_or-append-add, (mapped runs k m (omega (arith, h)) below))

-- ---- the run of each vertex
pub run_here : (tin : Triangulation) (vs : List PathVertex) (runs : List (List Position)) (k : ℕ) (d : PathVertex)
    → AreRuns tin vs runs → k < length vs → IsRun tin (get_or vs k d) (get_or runs k [])
run_here tin [] runs k d are h = absurd (omega (arith, h))
run_here tin (v ∷ vs) [] k d are h = absurd are
run_here tin (v ∷ vs) (run ∷ runs) zero d are h = are.0
run_here tin (v ∷ vs) (run ∷ runs) (suc k) d are h = run_here tin vs runs k d are.1 (omega (arith, h))

pub runs_count : (tin : Triangulation) (vs : List PathVertex) (runs : List (List Position)) → AreRuns tin vs runs
    → length runs ≡ length vs
runs_count tin [] [] are = refl
runs_count tin (v ∷ vs) (run ∷ runs) are = ap suc (runs_count tin vs runs are.1)
runs_count tin vs runs are = absurd are

pub some_images : (tin : Triangulation) (v : PathVertex) (run : List Position) → IsRun tin v run → 0 < length run
some_images tin v [] is = absurd is
some_images tin v (image ∷ images) is = omega arith
