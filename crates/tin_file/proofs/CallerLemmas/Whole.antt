-- The rows of a file, together.
use Rattle.std.proofs.Common.{◌≡◌, ℕ, ◌≤◌, List, length, map, ap, ◌∙◌, subst, arith}
use Rattle.std.specs.Prelude.{if◌then◌else◌, Result, Ok}
use Rattle.std.specs.List.{AllByRecursion}
use Rattle.std.proofs.lemmas.List.{length-map}
use Rattle.std.proofs.lemmas.Bool.{ltb-false}
use Rattle.jtext.specs.Values.{Json, Members}
use Rattle.sheet_base.specs.declared.flags.How.{How}
use Rattle.tin_base.specs.declared.limits.TheConstants.{MOST_CORNERS, MOST_TRIANGLES}
use Rattle.tin_file.specs.Keys.{needed_list, and_then}
use Rattle.tin_file.specs.Vertices.{few, vertices, vertex_rows}
use Rattle.tin_file.specs.Triangles.{triangles, triangle_rows}
use Rattle.tin_file.specs.TinFiles.{rows_of, within_spans}
use Rattle.tin_file.specs.RowContents.{corners_in, face_corners, AreInReach, IsBelow, AreGathered, IsComplete}
use Rattle.tin_file.specs.declared.columns.VertexColumns.{VertexColumns}
use Rattle.tin_file.specs.declared.columns.TriangleColumns.{TriangleColumns}
use Rattle.tin_file.specs.declared.headings.Heading.{Heading}
use Rattle.tin_file.specs.declared.vertices.VertexRow.{VertexRow}
use Rattle.tin_file.specs.declared.vertices.Vertices.{Vertices}
use Rattle.tin_file.specs.declared.faults.Rows.{Rows}
use Rattle.tin_file.specs.declared.faults.Top.TheVariants as tops
use Rattle.tin_file.specs.declared.faults.Rows.TheVariants as lists
use Rattle.tin_file.specs.declared.faults.TinFault.{TinFault}
use Rattle.tin_file.proofs.CallerLemmas.RowsRead.{same_ok, rows_reach, rows_long, faces_long, faces_below}

pub split_then : {A B : Type 0} (f : A → Result B TinFault) (r : Result A TinFault) (made : B) → and_then f r ≡ Ok made
    → (value : A) × (r ≡ Ok value) × (f value ≡ Ok made)
split_then f r made h = grind arith

pub few_are : (list : Rows) (most : ℕ) (values rows : List Json) → few list most values ≡ Ok rows → length rows ≤ most
few_are list most values rows h = grind (arith, same_ok, ltb-false)

-- what all vertex rows are
pub record AreVertices (rows : List VertexRow) : Type 0 where
  pub reach : AreInReach (corners_in rows)
  pub few_rows : length rows ≤ MOST_CORNERS

pub vertices_are : (how : How) (columns : VertexColumns) (members : Members) (rows : List VertexRow)
    → vertices how columns members ≡ Ok rows → AreVertices rows
unfolding vertices
vertices_are how columns members rows h =
    let (values, found, made) = split_then (vertex_rows how columns 0)
    (and_then (few lists.Vertices MOST_CORNERS) (needed_list tops.Vertices members)) rows h in
    let (all, listed, passes) = split_then (few lists.Vertices MOST_CORNERS) (needed_list tops.Vertices members) values
    found in
    record {
      reach = rows_reach how columns 0 values rows made;
      few_rows = omega (
        arith,
        rows_long how columns 0 values rows made,
        few_are lists.Vertices MOST_CORNERS all values
            passes,
      );
    }

pub record AreTriangles (count : ℕ) (faces : List (List ℕ)) : Type 0 where
  pub below : AllByRecursion (IsBelow count) faces
  pub few_faces : length faces ≤ MOST_TRIANGLES

pub triangles_are : (columns : TriangleColumns) (count : ℕ) (members : Members) (faces : List (List ℕ))
    → triangles columns count members ≡ Ok faces → AreTriangles count faces
unfolding triangles
triangles_are columns count members faces h =
    let (values, found, made) = split_then (triangle_rows columns count 0)
    (and_then (few lists.Triangles MOST_TRIANGLES) (needed_list tops.Triangles members)) faces h in
    let (all, listed, passes) = split_then (few lists.Triangles MOST_TRIANGLES) (needed_list tops.Triangles members)
    values found in
    record {
      below = faces_below columns count 0 values faces made;
      few_faces = omega (
        arith,
        faces_long columns count 0 values faces made,
        few_are lists.Triangles MOST_TRIANGLES all
            values passes,
      );
    }

pub numbers_long : (done : Vertices) (rows : List VertexRow) → AreGathered done rows
    → length done.numbers.items ≡ length rows
numbers_long done rows h = grind (arith, length-map)

module _ (how : How) (columns : Heading) (members : Members) (done : Vertices) (rows : List VertexRow)
    (is : vertices how columns.vertices members ≡ Ok rows) (gathered : AreGathered done rows) (numbers : List ℕ)
    (same : numbers ≡ done.numbers.items) where
  count : length numbers ≡ length rows
  count = ap length same ∙ numbers_long done rows gathered

  pub numbers_few : length numbers ≤ MOST_CORNERS
  numbers_few = omega (arith, count, (vertices_are how columns.vertices members rows is).few_rows)

  pub complete : (made faces : List (List ℕ)) → triangles columns.triangles (length numbers) members ≡ Ok faces
      → made ≡ map (face_corners numbers) faces → IsComplete done made rows faces
  complete made faces found placed_so =
      let rows_facts = vertices_are how columns.vertices members rows is in
      let faces_facts = triangles_are columns.triangles (length numbers) members faces found in
      record {
        gathered = gathered;
        placed_so = placed_so ∙ ap (λ ns. map (face_corners ns) faces) same;
        reach = rows_facts.reach;
        below = subst (λ n. AllByRecursion (IsBelow n) faces) count faces_facts.below;
        few_rows = rows_facts.few_rows;
        few_faces = faces_facts.few_faces;
      }

  pub rows_so : rows_of how members columns ≡ and_then (within_spans rows)
      (triangles columns.triangles (length numbers) members)
  rows_so = grind (arith, count)
