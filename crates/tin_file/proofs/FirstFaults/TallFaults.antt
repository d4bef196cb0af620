-- The faults of a value with a vertical component are none of a text that is no JSON.
use Rattle.std.proofs.Common.{◌≡◌, ℕ, ◌++◌, List, [], ◌∷◌, length, Bool, true, false, refl, arith}
use Rattle.std.specs.Prelude.{codes, slice_index_or, Option, Result, Err}
use Rattle.std.specs.List.{list_all, list_any}
use Rattle.jtext.specs.Values.{Json, Members, null}
use Rattle.mm_decimal.specs.declared.numerals.MmRead.{MmRead}
use Rattle.sheet_base.specs.declared.flags.How.{How}
use Rattle.tin_base.specs.declared.limits.TheConstants.{MOST_CORNERS}
use Rattle.tin_file.specs.Keys.{is_object, is_text, needed_list, and_then}
use Rattle.tin_file.specs.Headings.{file_type, version, strategy, is_component, place_of, triangle_columns}
use Rattle.tin_file.specs.Vertices.{few, number_at}
use Rattle.tin_file.specs.Triangles.{triangles}
use Rattle.tin_file.specs.TinFiles.{within_spans}
use Rattle.tin_file.specs.TallHeadings.{is_vertical, tall_components, tall_components_in, tall_columns, tall_columns_in}
use Rattle.tin_file.specs.TallHeadings.{tall_columns_at, target_columns_in, offset_columns_in, all_columns, tall_heading}
use Rattle.tin_file.specs.TallVertices.{corner_from, offset_in}
use Rattle.tin_file.specs.TallVertices.{tall_from, tall_of, differs_from, agreeing, next_tall, tall_rows, tall_vertices}
use Rattle.tin_file.specs.TallVertices.{vertices_in}
use Rattle.tin_file.specs.TallFiles.{tall_within_spans, tall_rows_of, tall_reading}
use Rattle.tin_file.specs.declared.faults.Top.TheVariants as tops
use Rattle.tin_file.specs.declared.faults.Rows.TheVariants as lists
use Rattle.tin_file.specs.declared.faults.TinFault.{TinFault}
use Rattle.tin_file.specs.declared.faults.TinFault.TheVariants as faults
use Rattle.tin_file.specs.declared.tall_columns.TargetColumns.{TargetColumns}
use Rattle.tin_file.specs.declared.tall_columns.TargetColumns.TheVariants as targets
use Rattle.tin_file.specs.declared.tall_columns.OffsetColumns.{OffsetColumns}
use Rattle.tin_file.specs.declared.tall_columns.OffsetColumns.TheVariants as offsets
use Rattle.tin_file.specs.declared.tall_columns.TallColumns.{TallColumns}
use Rattle.tin_file.specs.declared.tall_headings.TallHeading.{TallHeading}
use Rattle.tin_file.specs.declared.tall_vertices.Offset.{Offset}
use Rattle.tin_file.specs.declared.tall_vertices.TallVertex.{TallVertex}
use Rattle.tin_file.specs.declared.vertices.VertexRow.{VertexRow}
use Rattle.tin_file.proofs.FirstFaults.ValueFaults.{IsGood, fine, good_then, good_checked, good_if, good_needed_list}
use Rattle.tin_file.proofs.FirstFaults.ValueFaults.{good_file_type, good_version, good_strategy, good_triangle_columns, good_number}
use Rattle.tin_file.proofs.FirstFaults.ValueFaults.{good_few, good_triangles, good_within}

pub is_no_tall_object : (how : How) (value : Json) → false ≡ is_object value
    → Err (faults.Key tops.Whole) ≡ tall_reading how value
is_no_tall_object how value h = grind arith

-- ---- headings
good_tall_components : (members : Members) → IsGood true (tall_components members)
unfolding tall_components
good_tall_components members =
    good_then true tall_components_in (needed_list tops.Components members) (good_needed_list true tops.Components members)
    (λ values. good_if true (list_all is_component values)
    (good_if true (list_any is_vertical values) (fine true _ tt) (fine true _ refl)) (fine true _ tt))

good_places : (count : ℕ) (a b : Option ℕ) (t : Option TargetColumns) (o : Option OffsetColumns)
    → IsGood true (tall_columns_at count a b t o)
good_places count a b t o = grind (arith, fine)

good_tall_columns : (wanted : Bool) (members : Members) → IsGood true (tall_columns wanted members)
unfolding tall_columns
good_tall_columns wanted members =
    good_then true (tall_columns_in wanted) (needed_list tops.VerticesColumns members)
    (good_needed_list true tops.VerticesColumns members)
    (λ values. good_if true (list_all is_text values)
    (good_places (length values) (place_of (codes "source_x") values) (place_of (codes "source_y") values)
    (target_columns_in wanted values) (offset_columns_in values))
    (fine true _ tt))

good_all_columns : (members : Members) (wanted : Bool) → IsGood true (all_columns members wanted)
good_all_columns members wanted =
    good_then true _ (tall_columns wanted members) (good_tall_columns wanted members)
    (λ columns. good_then true _ (triangle_columns members) (good_triangle_columns true members) (λ others. fine true _ tt))

good_tall_heading : (how : How) (members : Members) → IsGood true (tall_heading how members)
good_tall_heading how members =
    good_checked true (file_type members) _ (good_file_type true members)
    (good_checked true (version members) _ (good_version true members)
    (good_checked true (strategy how members) _ (good_strategy true how members)
    (good_then true (all_columns members) (tall_components members) (good_tall_components members)
    (good_all_columns members))))

-- ---- rows

good_at : (how : How) (row : ℕ) (values : List Json) (place : ℕ) → IsGood true (number_at how row values place)
good_at how row values place = good_number true how row (slice_index_or values place null)

good_corner : (how : How) (row : ℕ) (values : List Json) (a b : Result MmRead TinFault) → IsGood true a → IsGood true b
    → (target : TargetColumns) → IsGood true (corner_from how row values a b target)
good_corner how row values a b h i target = grind (arith, good_at)

good_offset : (how : How) (columns : OffsetColumns) (row : ℕ) (values : List Json)
    → IsGood true (offset_in how columns row values)
good_offset how columns row values = grind (arith, good_at)

good_tall_from : (a : Result VertexRow TinFault) (b : Result Offset TinFault) → IsGood true a → IsGood true b
    → IsGood true (tall_from a b)
good_tall_from a b h i = grind (arith, fine)

good_tall : (how : How) (columns : TallColumns) (row : ℕ) (value : Json) → IsGood true (tall_of how columns row value)
good_tall how columns row value = grind (arith, good_if, good_tall_from, good_corner, good_at, good_offset, fine)

good_agreeing : (earlier : List TallVertex) (one : TallVertex) → IsGood true (agreeing earlier one)
good_agreeing earlier one = good_if true (list_any (differs_from one) earlier) (fine true _ refl) (fine true _ tt)

good_tall_rows : (how : How) (columns : TallColumns) (earlier : List TallVertex) (values : List Json)
    → IsGood true (tall_rows how columns earlier values)
good_tall_rows how columns earlier [] = fine true _ tt
good_tall_rows how columns earlier (value ∷ values) =
    good_then true (λ one. tall_rows how columns (earlier ++ one ∷ []) values) (next_tall how columns earlier value)
    (grind (arith, good_then, good_tall, good_agreeing))
    (λ one. good_tall_rows how columns (earlier ++ one ∷ []) values)

good_tall_vertices : (how : How) (columns : TallColumns) (members : Members)
    → IsGood true (tall_vertices how columns members)
unfolding tall_vertices
good_tall_vertices how columns members =
    good_then true (tall_rows how columns []) (and_then (few lists.Vertices MOST_CORNERS)
    (needed_list tops.Vertices members))
    (good_then true (few lists.Vertices MOST_CORNERS) (needed_list tops.Vertices members)
    (good_needed_list true tops.Vertices members) (good_few true lists.Vertices MOST_CORNERS))
    (good_tall_rows how columns [])

good_tall_within : (rows : List TallVertex) (faces : List (List ℕ)) → IsGood true (tall_within_spans rows faces)
good_tall_within rows faces =
    good_then true _ (within_spans (vertices_in rows) faces) (good_within true (vertices_in rows) faces) (λ tin. fine true _ tt)

good_tall_rows_of : (how : How) (members : Members) (columns : TallHeading)
    → IsGood true (tall_rows_of how members columns)
good_tall_rows_of how members columns =
    good_then true (λ rows. and_then (tall_within_spans rows) (triangles columns.triangles (length rows) members))
    (tall_vertices how columns.vertices members)
    (good_tall_vertices how columns.vertices members)
    (λ rows. good_then true (tall_within_spans rows) (triangles columns.triangles (length rows) members)
    (good_triangles true columns.triangles (length rows) members) (good_tall_within rows))

pub good_tall_reading : (how : How) (value : Json) → IsGood true (tall_reading how value)
good_tall_reading how value = grind (arith, good_then, good_tall_heading, good_tall_rows_of, fine)
