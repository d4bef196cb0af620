-- The heights of a sheet's images are within reach, as those of its points are.
use Rattle.std.proofs.Common.{ℕ, zero, suc, ◌+◌, Bool, true, false, cond, ltb, List}
use Rattle.std.proofs.Common.{[]}
use Rattle.std.proofs.Common.{◌∷◌, ◌++◌, Option, Some, None, map, sym, subst, arith, All}
use Rattle.std.specs.List.{range_with_len}
use Rattle.std.proofs.Math.ListN.{get_or-eq_default}
use Rattle.std.proofs.lemmas.Bool.{cases_lt}
use Rattle.std.proofs.lemmas.List.{map-append}
use Rattle.std.proofs.lemmas.List.Elements.{All-append, All-cons}
use Rattle.plane_base.specs.declared.shapes.Pt.{Pt}
use Rattle.sheet_base.specs.declared.paths.PathRow.{PathRow}
use Rattle.sheet_base.specs.PointHeights.{Height, Position, heights_of, height_in, IsHeightWithinReach}
use Rattle.sheet_base.specs.ReadBack.{Ends}
use Rattle.sheet_base.specs.Segments.{segments_in, points_in, next_in}
use Rattle.sheet_base.specs.Sheets.{Contents}
use Rattle.tin_base.specs.Triangulation.{Triangulation}
use Rattle.tin_base.specs.Segments.{Part}
use Rattle.sheet_pieces.specs.SpotHeights.{crossing_heights}
use Rattle.sheet_pieces.specs.SheetSegments.{SheetSegment, PathVertex, segment_at, vertex_at, path_vertices}
use Rattle.sheet_pieces.specs.SheetSegments.{vertices_from}
use Rattle.sheet_pieces.specs.SheetSegments.{sheet_vertices}
use Rattle.sheet_pieces.specs.SheetImages.{IsRun, AreRuns, joined_runs}
use Rattle.sheet_pieces.proofs.OneHeight.{spot_reach}

-- ---- the heights of points
pub reach_in : (heights : List Height) → All IsHeightWithinReach heights → (number : ℕ)
    → IsHeightWithinReach (height_in heights number)
reach_in heights all number = grind (arith, cases_lt, get_or-eq_default)

-- ---- the heights of crossings
none_within : All IsHeightWithinReach []
none_within k d h = absurd (omega (arith, h))

crossing_reach : (a b : Pt) (ends : Ends Height) (parts : List Part) → IsHeightWithinReach ends.from
    → IsHeightWithinReach ends.to → All IsHeightWithinReach (crossing_heights a b ends parts)
crossing_reach a b ends (part ∷ next ∷ parts) from to =
    grind (arith, All-cons, spot_reach, (crossing_reach a b ends (next ∷ parts) from to))
crossing_reach a b ends parts from to = none_within

-- ---- the heights of vertices
abbrev AreEndsWithin : Option SheetSegment → Type 0
AreEndsWithin None = Unit {0}
AreEndsWithin (Some segment) = IsHeightWithinReach segment.heights.from × IsHeightWithinReach segment.heights.to

abbrev AreVerticesWithin : List PathVertex → Type 0
AreVerticesWithin [] = Unit {0}
AreVerticesWithin (v ∷ vs) = IsHeightWithinReach v.height × AreEndsWithin v.segment × AreVerticesWithin vs

within_more : (vs ws : List PathVertex) → AreVerticesWithin vs → AreVerticesWithin ws → AreVerticesWithin (vs ++ ws)
within_more [] ws h k = k
within_more (v ∷ vs) ws h k = (h.0, h.1, within_more vs ws h.2 k)

module _ (points : List Pt) (heights : List Height)
    (reach : (number : ℕ) → IsHeightWithinReach (height_in heights number))
  where
    path_within : (path : ℕ) (row : PathRow) (from count : ℕ)
        → AreVerticesWithin (map (vertex_at points heights path row) (range_with_len from count))
    path_within path row from zero = tt
    path_within path row from (suc count) = (
      reach (row.first + from),
      ends (ltb from (segments_in row)),
      path_within path row (from + 1) count,
    )
      where
        ends : (b : Bool) → AreEndsWithin (cond b (Some (segment_at points heights path row from)) None)
        ends true = (reach (row.first + from), reach (next_in row (row.first + from)))
        ends false = tt

    paths_within : (path : ℕ) (rows : List PathRow) → AreVerticesWithin (vertices_from points heights path rows)
    paths_within path [] = tt
    paths_within path (row ∷ rows) =
        within_more (path_vertices points heights path row) (vertices_from points heights (path + 1) rows)
        (path_within path row 0 (points_in row)) (paths_within (path + 1) rows)

run_within : (tin : Triangulation) (v : PathVertex) (run : List Position) → IsRun tin v run
    → IsHeightWithinReach v.height → AreEndsWithin v.segment → All IsHeightWithinReach (heights_of run)
run_within tin v [] is own ends = absurd is
run_within tin v (image ∷ images) (at, high, crossings) own ends = grind (arith, All-cons, none_within, crossing_reach)

runs_within : (tin : Triangulation) (vs : List PathVertex) (runs : List (List Position)) → AreRuns tin vs runs
    → AreVerticesWithin vs → All IsHeightWithinReach (heights_of (joined_runs runs))
runs_within tin [] [] are within = none_within
runs_within tin [] (run ∷ runs) are within = absurd are
runs_within tin (v ∷ vs) [] are within = absurd are
runs_within tin (v ∷ vs) (run ∷ runs) (is, are) within =
    subst (All IsHeightWithinReach) (sym (map-append (λ (position : Position). position.height) run (joined_runs runs)))
    (All-append IsHeightWithinReach (heights_of run) (heights_of (joined_runs runs))
    (run_within tin v run is within.0 within.1) (runs_within tin vs runs are within.2))

pub heights_within : (tin : Triangulation) (sheet : Contents) (runs : List (List Position))
    → All IsHeightWithinReach sheet.heights → AreRuns tin (sheet_vertices sheet) runs
    → All IsHeightWithinReach (heights_of (joined_runs runs))
heights_within tin sheet runs reach are =
    runs_within tin (sheet_vertices sheet) runs are
    (paths_within sheet.points sheet.heights (reach_in sheet.heights reach) 0 sheet.paths)
