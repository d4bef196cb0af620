-- The rows of a file with a vertical component, together.
use Rattle.std.proofs.Common.{◌≡◌, ℕ, ◌≤◌, ◌+◌, List, [], ◌∷◌, ◌++◌, length, map, Bool, true, false, sym, ap, ◌∙◌}
use Rattle.std.proofs.Common.{subst, arith, length-append}
use Rattle.std.specs.Prelude.{◌==◌, if◌then◌else◌, Result, Ok, Err}
use Rattle.std.specs.List.{AllByRecursion}
use Rattle.std.proofs.lemmas.List.{length-map, map-append}
use Rattle.plain_laws.proofs.Lists.{all_push}
use Rattle.jtext.specs.Values.{Json, Members, null, array}
use Rattle.mm_decimal.specs.declared.numerals.MmRead.{MmRead}
use Rattle.sheet_base.specs.declared.flags.How.{How}
use Rattle.tin_base.specs.declared.corners.Corner.{Corner}
use Rattle.tin_base.specs.declared.frames.Frame.TheVariants as frames
use Rattle.tin_base.specs.declared.limits.TheConstants.{MOST_CORNERS}
use Rattle.tin_base.specs.Limits.{IsCornerInReach}
use Rattle.tin_file.specs.Keys.{values_in, needed_list, and_then}
use Rattle.tin_file.specs.Vertices.{few}
use Rattle.tin_file.specs.Triangles.{triangles}
use Rattle.tin_file.specs.TallVertices.{corner_from, corner_in, offset_in, tall_from, tall_of}
use Rattle.tin_file.specs.TallVertices.{agreeing, next_tall, tall_rows, tall_vertices, vertices_in, tall_corners_in}
use Rattle.tin_file.specs.TallFiles.{tall_rows_of, tall_within_spans}
use Rattle.tin_file.specs.RowContents.{corners_in, face_corners, AreInReach, IsBelow, IsComplete}
use Rattle.tin_file.specs.InsideTallRows.{AreTallGathered}
use Rattle.tin_file.specs.declared.tall_columns.TargetColumns.{TargetColumns}
use Rattle.tin_file.specs.declared.tall_columns.TargetColumns.TheVariants as targets
use Rattle.tin_file.specs.declared.tall_columns.TallColumns.{TallColumns}
use Rattle.tin_file.specs.declared.tall_headings.TallHeading.{TallHeading}
use Rattle.tin_file.specs.declared.tall_vertices.Offset.{Offset}
use Rattle.tin_file.specs.declared.tall_vertices.TallVertex.{TallVertex}
use Rattle.tin_file.specs.declared.tall_vertices.TallVertices.{TallVertices}
use Rattle.tin_file.specs.declared.vertices.VertexRow.{VertexRow}
use Rattle.tin_file.specs.declared.faults.Top.TheVariants as tops
use Rattle.tin_file.specs.declared.faults.Rows.TheVariants as lists
use Rattle.tin_file.specs.declared.faults.TinFault.{TinFault}
use Rattle.tin_file.specs.declared.faults.TinFault.TheVariants.{Row}
use Rattle.tin_file.proofs.CallerLemmas.RowsRead.{same_ok, number_reach, ReachOk, VertexOk, from_reach}
use Rattle.tin_file.proofs.CallerLemmas.Whole.{split_then, few_are, triangles_are, numbers_long}
use Rattle.tin_file.proofs.VerticalComponent.TallRows.{corners_same}

-- ---- one row

corner_reach : (how : How) (row : ℕ) (values : List Json) (sx sy : Result MmRead TinFault) → ReachOk sx → ReachOk sy
    → (target : TargetColumns) (vertex : VertexRow) → corner_from how row values sx sy target ≡ Ok vertex
    → VertexOk vertex
corner_reach how row values sx sy h i target vertex is = grind (arith, from_reach, number_reach)

tall_split : (a : Result VertexRow TinFault) (b : Result Offset TinFault) (one : TallVertex) → tall_from a b ≡ Ok one
    → (x : VertexRow) × (a ≡ Ok x) × (x.corner ≡ one.vertex.corner)
tall_split a b one h = grind (arith, same_ok)

abbrev CornerOk : Corner → Type 0
CornerOk corner = IsCornerInReach frames.Source corner × IsCornerInReach frames.Target corner

tall_reach : (how : How) (columns : TallColumns) (row : ℕ) (value : Json) (one : TallVertex)
    → tall_of how columns row value ≡ Ok one → CornerOk one.vertex.corner
tall_reach how columns row (array blank elements) one h =
    by_test (length (values_in elements) == columns.count) h
  where
    by_test : (test : Bool) → (if test then tall_from (corner_in how columns row (values_in elements))
        (offset_in how columns.offset row (values_in elements)) else Err (Row lists.Vertices row)) ≡ Ok one
        → CornerOk one.vertex.corner
    by_test false h = cc
    by_test true h =
        let (x, is, same) = tall_split _ _ one h in
        subst CornerOk same (corner_reach how row (values_in elements) _ _ (number_reach how row _) (number_reach how row _)
        columns.target x is)
tall_reach how columns row null one h = cc
tall_reach how columns row _ one h = cc

-- ---- all rows
record AreRowsFrom (earlier : List TallVertex) (values : List Json) (rows : List TallVertex) : Type 0 where
  reach : AllByRecursion CornerOk (tall_corners_in earlier) → AllByRecursion CornerOk (tall_corners_in rows)
  long : length rows ≡ length earlier + length values

rows_from : (how : How) (columns : TallColumns) (earlier : List TallVertex) (values : List Json) (rows : List TallVertex)
    → tall_rows how columns earlier values ≡ Ok rows → AreRowsFrom earlier values rows
rows_from how columns earlier [] rows h = grind (arith, same_ok)
rows_from how columns earlier (value ∷ values) rows h =
    let (one, next, more) = split_then (λ one. tall_rows how columns (earlier ++ one ∷ []) values)
    (next_tall how columns earlier value) rows h in
    let (read, of, agrees) = split_then (agreeing earlier) (tall_of how columns (length earlier) value) one next in
    let rest = rows_from how columns (earlier ++ one ∷ []) values rows more in
    grind (arith, tall_reach, map-append, all_push, length-append)

record AreTallVertices (rows : List TallVertex) : Type 0 where
  reach : AreInReach (corners_in (vertices_in rows))
  few_rows : length rows ≤ MOST_CORNERS

tall_vertices_are : (how : How) (columns : TallColumns) (members : Members) (rows : List TallVertex)
    → tall_vertices how columns members ≡ Ok rows → AreTallVertices rows
unfolding tall_vertices
tall_vertices_are how columns members rows h =
    let (values, found, made) = split_then (tall_rows how columns [])
    (and_then (few lists.Vertices MOST_CORNERS) (needed_list tops.Vertices members)) rows h in
    let (all, listed, passes) = split_then (few lists.Vertices MOST_CORNERS) (needed_list tops.Vertices members) values
    found in
    let from = rows_from how columns [] values rows made in
    record {
      reach = subst AreInReach (sym (corners_same rows)) (from.reach tt);
      few_rows = omega (arith, from.long, few_are lists.Vertices MOST_CORNERS all values passes);
    }

module _ (how : How) (columns : TallHeading) (members : Members) (done : TallVertices) (rows : List TallVertex)
    (is : tall_vertices how columns.vertices members ≡ Ok rows) (gathered : AreTallGathered done rows)
    (numbers : List ℕ) (same : numbers ≡ done.vertices.numbers.items) where
  as_many : length (vertices_in rows) ≡ length rows
  as_many = length-map rows (λ (row : TallVertex). row.vertex)

  count : length numbers ≡ length rows
  count = ap length same ∙ numbers_long done.vertices (vertices_in rows) gathered.gathered ∙ as_many

  pub tall_numbers_few : length numbers ≤ MOST_CORNERS
  tall_numbers_few = omega (arith, count, (tall_vertices_are how columns.vertices members rows is).few_rows)

  pub tall_complete : (made faces : List (List ℕ)) → triangles columns.triangles (length numbers) members ≡ Ok faces
      → made ≡ map (face_corners numbers) faces → IsComplete done.vertices made (vertices_in rows) faces
  tall_complete made faces found placed_so =
      let rows_facts = tall_vertices_are how columns.vertices members rows is in
      let faces_facts = triangles_are columns.triangles (length numbers) members faces found in
      record {
        gathered = gathered.gathered;
        placed_so = placed_so ∙ ap (λ ns. map (face_corners ns) faces) same;
        reach = rows_facts.reach;
        below = subst (λ n. AllByRecursion (IsBelow n) faces) (count ∙ sym as_many) faces_facts.below;
        few_rows = omega (arith, as_many, rows_facts.few_rows);
        few_faces = faces_facts.few_faces;
      }

  pub tall_rows_so : tall_rows_of how members columns
      ≡ and_then (tall_within_spans rows) (triangles columns.triangles (length numbers) members)
  tall_rows_so = grind (arith, count)
