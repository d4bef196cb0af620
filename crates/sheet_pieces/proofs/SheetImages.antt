-- The images of a sheet fit it.
use Rattle.std.proofs.Common.{◌≡◌, ◌≢◌, ◌⊎◌, inl, inr, ℕ, zero, suc, ◌+◌, ◌-◌, ◌<◌, ◌≤◌, ℤ, unsigned_abs, All}
use Rattle.std.proofs.Common.{Bool, true, false, cond, ltb, List, [], ◌∷◌, ◌++◌, Option, Some, None, take, length}
use Rattle.std.proofs.Common.{get_or, ap, refl, sym, ◌∙◌, subst, arith}
use Rattle.std.proofs.lemmas.Int.{ints}
use Rattle.std.proofs.Math.ListN.{get_or-append}
use Rattle.std.proofs.lemmas.List.{take_more, get_or-append-add, length-append, get_or_default}
use Rattle.std.proofs.lemmas.List.Elements.{All-append, All-cons}
use Rattle.std.proofs.lemmas.List.FromFn.{length-map-range_with_len, get_or-map-range_with_len}
use Rattle.std.proofs.lemmas.Grind.{flat_map-append}
use Rattle.plane_base.specs.Plane.{Point}
use Rattle.plane_base.specs.declared.shapes.Pt.{Pt}
use Rattle.sheet_base.specs.declared.paths.PathKind.{PathKind}
use Rattle.sheet_base.specs.declared.paths.PathKind.TheVariants.{Dot, Line, Loop}
use Rattle.sheet_base.specs.declared.paths.PathRow.{PathRow}
use Rattle.sheet_base.specs.PointHeights.{Height, Position, points_of, heights_of, height_in, IsHeightWithinReach}
use Rattle.sheet_base.specs.Segments.{points_in, segments_of, segments_in, next_in, no_point, begin_of}
use Rattle.sheet_base.specs.Segments.{end_of}
use Rattle.sheet_base.specs.Sheets.{Contents, IsPathFrom, AreTiled, IsSheet}
use Rattle.sheet_base.specs.ImageFits.{Runs, run_begin, EndsAlone, HaveCrossingHeights, IsWithinReach}
use Rattle.mm_decimal.specs.declared.limits.TheConstants.{LIMIT}
use Rattle.tin_base.specs.Triangulation.{Triangulation}
use Rattle.tin_base.specs.Limits.{IsWithinLimits, IsInReach}
use Rattle.tin_base.specs.Soundness.{IsSound}
use Rattle.tin_base.specs.Segments.{Part, spot_at, ArePiecesAt}
use Rattle.affine_image.specs.RoundedImages.{IsRoundedImageAt}
use Rattle.sheet_pieces.specs.SheetSegments.{SheetSegment, PathVertex, segment_at, vertex_at, path_vertices}
use Rattle.sheet_pieces.specs.SheetSegments.{vertices_from}
use Rattle.sheet_pieces.specs.SheetSegments.{sheet_vertices}
use Rattle.sheet_pieces.specs.SheetImages.{AreEndsOfAllButLast, joined_runs, begins_from}
use Rattle.sheet_pieces.proofs.PlaneRuns.{ArePlaneCrossings, IsPlaneRun, ArePlaneRuns, plane, plane_runs, plane_joined}
use Rattle.sheet_pieces.proofs.PlaneRuns.{plane_begins}
use Rattle.sheet_pieces.specs.SheetPieces.{IsSheetInside}
use Rattle.sheet_pieces.specs.SheetImages.{IsRun, AreImagesOf}
use Rattle.sheet_pieces.specs.SheetLaws.{ImagesFit}
use Rattle.sheet_pieces.proofs.RunReach.{heights_within}
use Rattle.sheet_pieces.proofs.RunHeights.{vertex_height, vertex_inside, first_height, later_height, alone_height}
use Rattle.sheet_pieces.proofs.RunHeights.{height_at_run, run_here, runs_count, some_images}
use Rattle.std.specs.Option.{is_some}
use Rattle.std.specs.Prelude.{◌&&◌}
use Rattle.std.proofs.lemmas.Bool.{cases_lt, lt-ltb}
use Rattle.std.proofs.lemmas.List.{length-map, get_or-map, take-map}
use Rattle.affine_image.proofs.Reach.{rounded_images_are_in_reach}

-- ---- where a run begins
begin_at : (n : ℕ) (runs : List (List Pt)) (k : ℕ) → k ≤ length runs
    → get_or (begins_from n runs) k (n + length (joined_runs runs)) ≡ n + length (joined_runs (take k runs))
begin_at n [] zero h = refl
begin_at n [] (suc k) h = absurd (omega arith)
begin_at n (run ∷ runs) zero h = omega arith
begin_at n (run ∷ runs) (suc k) h =
    grind (arith, get_or, length-append, (begin_at (n + length run) runs k (omega arith)))

-- ---- as many runs as vertices, as many places as runs
pub run_count : (tin : Triangulation) (vs : List PathVertex) (runs : List (List Pt)) → ArePlaneRuns tin vs runs
    → length runs ≡ length vs
run_count tin [] [] h = refl
run_count tin (v ∷ vs) (run ∷ runs) h = ap suc (run_count tin vs runs h.1)
run_count tin vs runs h = absurd h

place_count : (n : ℕ) (runs : List (List Pt)) → length (begins_from n runs) ≡ length runs
place_count n [] = refl
place_count n (run ∷ runs) = ap suc (place_count (n + length run) runs)

run_at : (tin : Triangulation) (vs : List PathVertex) (runs : List (List Pt)) (k : ℕ) (d : PathVertex)
    → ArePlaneRuns tin vs runs → k < length vs → IsPlaneRun tin (get_or vs k d) (get_or runs k [])
run_at tin [] [] k d are h = absurd (omega arith)
run_at tin (v ∷ vs) (run ∷ runs) zero d are h = are.0
run_at tin (v ∷ vs) (run ∷ runs) (suc k) d are h = run_at tin vs runs k d are.1 (omega arith)
run_at tin vs runs k d are h = absurd are

-- ---- how many vertices
vertex_count : (points : List Pt) (heights : List Height) (n : ℕ) (rows : List PathRow) (first past : ℕ)
    → AreTiled rows first past
    → first + length (vertices_from points heights n rows) ≡ past
vertex_count points heights n [] first past e = grind arith
vertex_count points heights n (row ∷ rows) first past h =
    let path = h.0 in
    sum (length (vertices_from points heights n (row ∷ rows))) (length (path_vertices points heights n row))
    (length (vertices_from points heights (n + 1) rows))
    (length-append (path_vertices points heights n row) (vertices_from points heights (n + 1) rows))
    (length-map-range_with_len (vertex_at points heights n row) 0 (points_in row)) path.begins path.some
    (vertex_count points heights (n + 1) rows row.past past h.1)
  where
    sum : (l m k : ℕ) → l ≡ m + k → m ≡ row.past - row.first → row.first ≡ first → row.first < row.past
        → row.past + k ≡ past → first + l ≡ past
    sum l m k e f g h i = omega arith

-- ---- which vertex is where
begins_behind : (rows : List PathRow) (first past i : ℕ) (row : PathRow) → AreTiled rows first past → i < length rows
    → row ≡ get_or rows i row → first ≤ row.first
begins_behind [] first past i row h k e = absurd (omega arith)
begins_behind (r ∷ rows) first past zero row h k e = grind arith
begins_behind (r ∷ rows) first past (suc i) row h k e =
    grind (arith, (begins_behind rows r.past past i row h.1 (omega arith) e))

vertex_of : (points : List Pt) (heights : List Height) (n : ℕ) (rows : List PathRow) (first past i j k : ℕ)
    (row : PathRow) (d : PathVertex)
    → AreTiled rows first past → i < length rows → row ≡ get_or rows i row → j < points_in row
    → k + first ≡ row.first + j
    → get_or (vertices_from points heights n rows) k d ≡ vertex_at points heights (n + i) row j
vertex_of points heights n [] first past i j k row d tiled h e hj at = absurd (omega arith)
vertex_of points heights n (r ∷ rows) first past zero j k row d tiled h e hj at =
    grind (arith, get_or, get_or-append, length-map-range_with_len, get_or-map-range_with_len)
vertex_of points heights n (r ∷ rows) first past (suc i) j k row d tiled h e hj at =
    let path = tiled.0 in
    let front = path_vertices points heights n r in
    let m = row.first + j - r.past in
    let behind = begins_behind rows r.past past i row tiled.1 (omega arith) e in
    let there : k ≡ length front + m = split (length-map-range_with_len (vertex_at points heights n r) 0 (points_in r))
    path.begins path.some behind in
    ap (λ (x : ℕ). get_or (front ++ vertices_from points heights (n + 1) rows) x d) there
    ∙ get_or-append-add front (vertices_from points heights (n + 1) rows) m d
    ∙ vertex_of points heights (n + 1) rows r.past past i j m row d tiled.1 (omega arith) e hj (rest behind)
    ∙ ap (λ (x : ℕ). vertex_at points heights x row j) (omega arith)
  where
    split : {l : ℕ} → l ≡ r.past - r.first → r.first ≡ first → r.first < r.past → r.past ≤ row.first
        → k ≡ l + (row.first + j - r.past)
    split {l = l} e f g h = omega arith

    rest : r.past ≤ row.first → row.first + j - r.past + r.past ≡ row.first + j
    rest h = omega arith

-- ---- the last vertex of a path has no crossing after it
point_crossings : (tin : Triangulation) (a : Pt) (parts : List Part) (images : List Pt) → ArePiecesAt tin a parts
    → AreEndsOfAllButLast tin a a parts images → images ≡ []
point_crossings tin a (part ∷ next ∷ parts) images pieces ends = absurd pieces
point_crossings tin a parts images pieces ends = ends

same_ends : (tin : Triangulation) (segment : SheetSegment) (images : List Pt) → segment.a ≡ segment.b
    → ArePlaneCrossings tin (Some segment) images → images ≡ []
same_ends tin segment images e cross = grind (arith, point_crossings)

-- a path has one point if each of its vertices begins a segment, and if it is no loop of more
lone : (kind : PathKind) (n : ℕ) → 0 < n → (kind ≢ Loop) ⊎ (n ≡ 1) → (kind ≡ Dot → n ≡ 1) → n - 1 < segments_of kind n
    → n ≡ 1
lone Dot n some which dot h = dot refl
lone Line n some which dot h = grind arith
lone Loop n some (inl other) dot h = absurd (other refl)
lone Loop n some (inr e) dot h = e

not_below : (j n : ℕ) → (j < n → ⊥) → ltb j n ≡ false
not_below j n h = grind arith

below : (j n : ℕ) → j < n → ltb j n ≡ true
below j n h = grind arith

below_or : (j n : ℕ) → (j < n) ⊎ (j < n → ⊥)
below_or j n = grind arith

-- the one segment of a path of one point goes from its point to itself
to_itself : (points : List Pt) (row : PathRow) → row.first < row.past → points_in row ≡ 1
    → begin_of points row 0 ≡ end_of points row 0
to_itself points row h e = grind (arith, not_below)

last_crossings : (tin : Triangulation) (points : List Pt) (heights : List Height) (path : ℕ) (row : PathRow)
    (images : List Pt)
    → IsPathFrom row.first row → (row.kind ≢ Loop) ⊎ (points_in row ≡ 1)
    → ArePlaneCrossings tin (vertex_at points heights path row (points_in row - 1)).segment images → images ≡ []
last_crossings tin points heights path row images from which cross =
    grind (arith, below_or, ArePlaneCrossings, not_below, lone, same_ends, to_itself, below)

-- ---- in reach
reached : (z : ℤ) → IsInReach z → unsigned_abs z ≤ LIMIT
reached z h = omega (arith, ints, h.0, h.1)

point_reached : (tin : Triangulation) (p : Point) (image : Pt) → IsWithinLimits tin → IsRoundedImageAt tin p image
    → IsWithinReach image
point_reached tin p image limits is = let h =
    rounded_images_are_in_reach tin p image limits is in (reached image.x h.0, reached image.y h.1)

none_reached : All IsWithinReach []
none_reached k d h = absurd (omega arith)

ends_reached : (tin : Triangulation) (a b : Pt) (parts : List Part) (images : List Pt) → IsWithinLimits tin
    → AreEndsOfAllButLast tin a b parts images → All IsWithinReach images
ends_reached tin a b (part ∷ next ∷ parts) [] limits e = absurd e
ends_reached tin a b (part ∷ next ∷ parts) (image ∷ images) limits e =
    All-cons IsWithinReach image images (point_reached tin (spot_at a b part.last) image limits e.0)
    (ends_reached tin a b (next ∷ parts) images limits e.1)
ends_reached tin a b parts images limits e = subst (λ (xs : List Pt). All IsWithinReach xs) (sym e) none_reached

run_reached : (tin : Triangulation) (v : PathVertex) (run : List Pt) → IsWithinLimits tin → IsPlaneRun tin v run
    → All IsWithinReach run
run_reached tin v [] limits h = absurd h
run_reached tin v (image ∷ images) limits h =
    All-cons IsWithinReach image images (point_reached tin _ image limits h.0) (crossings v.segment h.1)
  where
    crossings : (s : Option SheetSegment) → ArePlaneCrossings tin s images → All IsWithinReach images
    crossings None e = subst (λ (xs : List Pt). All IsWithinReach xs) (sym e) none_reached
    crossings (Some s) e = ends_reached tin s.a s.b e.0 images limits e.2

runs_reached : (tin : Triangulation) (vs : List PathVertex) (runs : List (List Pt)) → IsWithinLimits tin
    → ArePlaneRuns tin vs runs → All IsWithinReach (joined_runs runs)
runs_reached tin [] [] limits h = none_reached
runs_reached tin (v ∷ vs) (run ∷ runs) limits h =
    All-append IsWithinReach run (joined_runs runs) (run_reached tin v run limits h.0) (runs_reached tin vs runs limits h.1)
runs_reached tin vs runs limits h = absurd h

-- ---- the images fit
abbrev no_vertex : PathVertex
no_vertex = record { point = no_point; height = None; segment = None }

some_run : (tin : Triangulation) (v : PathVertex) (run : List Pt) → IsPlaneRun tin v run → 0 < length run
some_run tin v [] h = absurd h
some_run tin v (image ∷ images) h = omega arith

pub alone_run : (tin : Triangulation) (points : List Pt) (heights : List Height) (path : ℕ) (row : PathRow)
    (run : List Pt)
    → IsPathFrom row.first row → (row.kind ≢ Loop) ⊎ (points_in row ≡ 1)
    → IsPlaneRun tin (vertex_at points heights path row (points_in row - 1)) run → length run ≡ 1
alone_run tin points heights path row [] from which h = absurd h
alone_run tin points heights path row (image ∷ images) from which h =
    ap (λ (xs : List Pt). suc (length xs)) (last_crossings tin points heights path row images from which h.1)

row_from : (rows : List PathRow) (first past i : ℕ) (row : PathRow) → AreTiled rows first past → i < length rows
    → row ≡ get_or rows i row → IsPathFrom row.first row
row_from [] first past i row h k e = absurd (omega arith)
row_from (r ∷ rows) first past zero row h k e = grind arith
row_from (r ∷ rows) first past (suc i) row h k e = row_from rows r.past past i row h.1 (omega arith) e

row_upto : (rows : List PathRow) (first past i : ℕ) (row : PathRow) → AreTiled rows first past → i < length rows
    → row ≡ get_or rows i row → row.past ≤ past
row_upto [] first past i row h k e = absurd (omega arith)
row_upto (r ∷ rows) first past zero row h k e =
    upto (length (vertices_from [] [] 0 rows)) (ap (λ (x : PathRow). x.past) e)
    (vertex_count [] [] 0 rows r.past past h.1)
  where
    upto : (l : ℕ) → row.past ≡ r.past → r.past + l ≡ past → row.past ≤ past
    upto l e f = omega arith
row_upto (r ∷ rows) first past (suc i) row h k e = row_upto rows r.past past i row h.1 (omega arith) e

pub record AreJoined (images : Runs) (runs : List (List Pt)) : Type 0 where
  pub points : images.points ≡ joined_runs runs
  pub run : images.run ≡ begins_from 0 runs

pub begin_is : (images : Runs) (runs : List (List Pt)) (k : ℕ) → AreJoined images runs → k ≤ length runs
    → run_begin images k ≡ length (joined_runs (take k runs))
begin_is images runs k are h =
    ap (λ (ns : List ℕ). get_or ns k (length images.points)) are.run
    ∙ ap (λ (ps : List Pt). get_or (begins_from 0 runs) k (length ps)) are.points
    ∙ ap (λ (d : ℕ). get_or (begins_from 0 runs) k d) (zeroed (length (joined_runs runs))) ∙ begin_at 0 runs k h
    ∙ sym (zeroed (length (joined_runs (take k runs))))
  where
    zeroed : (n : ℕ) → n ≡ 0 + n
    zeroed n = omega arith

step_is : (images : Runs) (runs : List (List Pt)) (k : ℕ) → AreJoined images runs → k < length runs
    → run_begin images (k + 1) ≡ run_begin images k + length (get_or runs k [])
step_is images runs k are h =
    begin_is images runs (k + 1) are (omega arith)
    ∙ ap (λ (rs : List (List Pt)). length (joined_runs rs)) (take_more runs k [] h)
    ∙ ap (λ (ps : List Pt). length ps) (flat_map-append (λ run. run) (take k runs) (get_or runs k [] ∷ []))
    ∙ length-append (joined_runs (take k runs)) (joined_runs (get_or runs k [] ∷ []))
    ∙ ap (λ (n : ℕ). length (joined_runs (take k runs)) + n)
    (length-append (get_or runs k []) [] ∙ more (length (get_or runs k [])))
    ∙ ap (λ (n : ℕ). n + length (get_or runs k [])) (sym (begin_is images runs k are (omega arith)))
  where
    more : (n : ℕ) → n + 0 ≡ n
    more n = omega arith

pub run_many : (tin : Triangulation) (sheet : Contents) (runs : List (List Pt)) → IsSheet sheet
    → ArePlaneRuns tin (sheet_vertices sheet) runs → length runs ≡ length sheet.points
run_many tin sheet runs is are = grind (arith, run_count, vertex_count)

risen : (tin : Triangulation) (sheet : Contents) (images : Runs) (runs : List (List Pt)) (k : ℕ) → IsSheet sheet
    → ArePlaneRuns tin (sheet_vertices sheet) runs → AreJoined images runs → k < length sheet.points
    → run_begin images k < run_begin images (k + 1)
risen tin sheet images runs k is are joint h =
    let here : k < length runs = subst (λ (n : ℕ). k < n) (sym (run_many tin sheet runs is are)) h in
    let there : k < length (sheet_vertices sheet) =
    subst (λ (n : ℕ). k < n) (run_count tin (sheet_vertices sheet) runs are) here in
    up (step_is images runs k joint here) (some_run tin (get_or (sheet_vertices sheet) k no_vertex) (get_or runs k [])
    (run_at tin (sheet_vertices sheet) runs k no_vertex are there))
  where
    up : {m n l : ℕ} → m ≡ n + l → 0 < l → n < m
    up {m = m} {n = n} {l = l} e f = omega arith

alone_at : (tin : Triangulation) (sheet : Contents) (images : Runs) (runs : List (List Pt)) (i : ℕ) (row : PathRow)
    → IsSheet sheet → ArePlaneRuns tin (sheet_vertices sheet) runs → AreJoined images runs → i < length sheet.paths
    → row ≡ get_or sheet.paths i row → EndsAlone images row
alone_at tin sheet images runs i row is are joint h e which last at =
    let from = row_from sheet.paths 0 (length sheet.points) i row is.tiled h e in
    let upto = row_upto sheet.paths 0 (length sheet.points) i row is.tiled h e in
    let below : last < length sheet.points = omega arith in
    let here : last < length runs = subst (λ (n : ℕ). last < n) (sym (run_many tin sheet runs is are)) below in
    let there : last < length (sheet_vertices sheet) =
    subst (λ (n : ℕ). last < n) (run_count tin (sheet_vertices sheet) runs are) here in
    let vertex = vertex_of sheet.points sheet.heights 0 sheet.paths 0 (length sheet.points) i (points_in row - 1) last
    row no_vertex
    is.tiled h e (under row.first row.past from.some) (place row.first row.past from.some at) in
    let run = subst (λ (v : PathVertex). IsPlaneRun tin v (get_or runs last [])) vertex
    (run_at tin (sheet_vertices sheet) runs last no_vertex are there) in
    step_is images runs last joint here ∙ ap (λ (n : ℕ). run_begin images last + n)
    (alone_run tin sheet.points sheet.heights (0 + i) row (get_or runs last []) from which run)
  where
    under : (m n : ℕ) → m < n → n - m - 1 < n - m
    under m n h = omega arith

    place : (m n : ℕ) → m < n → last + 1 ≡ n → last + 0 ≡ m + (n - m - 1)
    place m n h e = omega arith

-- ---- with their heights
pub plane_joint : (images : Runs) (runs : List (List Position)) → images.points ≡ points_of (joined_runs runs)
    → images.run ≡ begins_from 0 runs → AreJoined images (plane runs)
plane_joint images runs points run =
    record { points = points ∙ sym (plane_joined runs); run = run ∙ sym (plane_begins 0 runs) }

plane_length : (runs : List (List Position)) (k : ℕ)
    → length (joined_runs (take k (plane runs))) ≡ length (joined_runs (take k runs))
plane_length runs k = grind (arith, take-map, plane_joined, length-map)

plane_at : (runs : List (List Position)) (k : ℕ) → k < length runs
    → length (get_or (plane runs) k []) ≡ length (get_or runs k [])
plane_at runs k h = grind (arith, get_or-map, length-map, get_or)

module _ (tin : Triangulation) (sheet : Contents) (images : Runs) (sound : IsSound tin) (is : IsSheet sheet)
    (inside : IsSheetInside tin sheet) (are : AreImagesOf tin sheet images) where
  abbrev vs : List PathVertex
  vs = sheet_vertices sheet

  joint : AreJoined images (plane are.runs)
  joint = plane_joint images are.runs are.points are.run

  many : length vs ≡ length sheet.points
  many = grind (arith, vertex_count)

  runs_many : length are.runs ≡ length sheet.points
  runs_many = runs_count tin vs are.runs are.of_vertices ∙ many

  begin_here : (k : ℕ) → k < length sheet.points → run_begin images k ≡ length (joined_runs (take k are.runs))
  begin_here k h =
      begin_is images (plane are.runs) k joint
      (let e = length-map are.runs (λ (run : List Position). points_of run) in let f =
      runs_many in omega (arith, e, f, h))
      ∙ plane_length are.runs k

  step_here : (k : ℕ) → k < length sheet.points
      → run_begin images (k + 1) ≡ run_begin images k + length (get_or are.runs k [])
  step_here k h =
      let below : k < length are.runs = let f = runs_many in omega (arith, f, h) in
      step_is images (plane are.runs) k joint
      (let e = length-map are.runs (λ (run : List Position). points_of run) in omega (arith, e, below))
      ∙ ap (λ (n : ℕ). run_begin images k + n) (plane_at are.runs k below)

  height_here : (k m : ℕ) → k < length sheet.points → m < length (get_or are.runs k [])
      → height_in images.heights (run_begin images k + m) ≡ height_in (heights_of (get_or are.runs k [])) m
  height_here k m h below = grind (arith, begin_here, height_at_run, runs_many, below)

  run_of : (k : ℕ) → k < length sheet.points → IsRun tin (get_or vs k no_vertex) (get_or are.runs k [])
  run_of k h = run_here tin vs are.runs k no_vertex are.of_vertices (let f = many in omega (arith, f, h))

  own : (k : ℕ) → k < length sheet.points
      → height_in images.heights (run_begin images k) ≡ height_in sheet.heights k
  own k h =
      let run = get_or are.runs k [] in
      ap (height_in images.heights) (plus_zero (run_begin images k))
      ∙ height_here k 0 h (some_images tin (get_or vs k no_vertex) run (run_of k h))
      ∙ first_height tin (get_or vs k no_vertex) run (run_of k h)
      ∙ vertex_height sheet.points sheet.heights 0 sheet.paths 0 (length sheet.points) k no_vertex is.tiled
      (omega (arith, h))
      ∙ ap (height_in sheet.heights) (zero_less k)
    where
      plus_zero : (n : ℕ) → n ≡ n + 0
      plus_zero n = omega arith

      zero_less : (n : ℕ) → n + 0 ≡ n
      zero_less n = omega arith

  crossings_at : (i : ℕ) (row : PathRow) → i < length sheet.paths → row ≡ get_or sheet.paths i row
      → HaveCrossingHeights sheet images row
  crossings_at i row h e point image from upto behind before =
      go (cases_lt j (segments_in row))
    where
      j : ℕ
      j = point - row.first

      below : point < length sheet.points
      below = let past = row_upto sheet.paths 0 (length sheet.points) i row is.tiled h e in omega (arith, past, upto)

      run : List Position
      run = get_or are.runs point []

      m : ℕ
      m = image - run_begin images point - 1

      place : image ≡ run_begin images point + suc m
      place = omega (arith, behind)

      fits : suc m < length run
      fits = let f = step_here point below in omega (arith, f, behind, before)

      vertex : get_or vs point no_vertex ≡ vertex_at sheet.points sheet.heights (0 + i) row j
      vertex = grind (arith, vertex_of, j)

      at_point : row.first + j ≡ point
      at_point = omega (arith, from)

      segment : SheetSegment
      segment = segment_at sheet.points sheet.heights (0 + i) row j

      go : (j < segments_in row) ⊎ (segments_in row ≤ j)
          → is_some (height_in images.heights image)
          ≡ (is_some (height_in sheet.heights point) && is_some (height_in sheet.heights (next_in row point)))
      go (inl begun) =
          let some : (get_or vs point no_vertex).segment ≡ Some segment = ap (λ (v : PathVertex). v.segment) vertex
          ∙ ap (λ (b : Bool). cond b (Some segment) None) (lt-ltb j (segments_in row) begun) in
          ap (λ (n : ℕ). is_some (height_in images.heights n)) place
          ∙ ap (λ (z : Height). is_some z) (height_here point (suc m) below fits)
          ∙ later_height tin (get_or vs point no_vertex) run segment m sound
          (vertex_inside tin vs point no_vertex segment inside (let f = many in omega (arith, f, below)) some) some
          (run_of point below) fits
          ∙ ap (λ (n : ℕ). is_some (height_in sheet.heights n) && is_some (height_in sheet.heights (next_in row n)))
          at_point
      go (inr none) = grind (arith, alone_height, get_or, run, m, vertex, segment, not_below, j, run_of, below, fits)

pub images_fit : ImagesFit
images_fit tin sheet images limits sound is inside are few =
    let runs = plane are.runs in
    let of_vertices = plane_runs tin (sheet_vertices sheet) are.runs are.of_vertices in
    let joint = plane_joint images are.runs are.points are.run in
    record {
      few = few;
      one_each = ap (λ (ns : List ℕ). length ns) joint.run ∙ place_count 0 runs
          ∙ run_many tin sheet runs is of_vertices;
      begins = begin_is images runs 0 joint (omega arith);
      rises = λ point h. risen tin sheet images runs point is of_vertices joint h;
      alone = λ i d h. alone_at tin sheet images runs i (get_or sheet.paths i d) is of_vertices joint h
          (get_or_default sheet.paths i d (get_or sheet.paths i d) h);
      in_reach = subst (λ (ps : List Pt). All IsWithinReach ps) (sym joint.points)
          (runs_reached tin (sheet_vertices sheet) runs limits of_vertices);
      height_each = ap (λ (hs : List Height). length hs) are.heights
          ∙ length-map (joined_runs are.runs) (λ (position : Position). position.height)
          ∙ sym (length-map (joined_runs are.runs) (λ (position : Position). position.point))
          ∙ ap (λ (ps : List Pt). length ps) (sym are.points);
      heights_in_reach = subst (λ (hs : List Height). All IsHeightWithinReach hs) (sym are.heights)
          (heights_within tin sheet are.runs is.heights_in_reach are.of_vertices);
      own_heights = own tin sheet images sound is inside are;
      crossing_heights = λ i d h. crossings_at tin sheet images sound is inside are i (get_or sheet.paths i d) h
          (get_or_default sheet.paths i d (get_or sheet.paths i d) h);
    }
