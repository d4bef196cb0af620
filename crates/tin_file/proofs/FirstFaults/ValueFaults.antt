-- The faults of a value are none of a text that is no JSON.
use Rattle.std.proofs.Common.{◌≡◌, ℕ, ◌+◌, List, [], ◌∷◌, length, Bool, true, nat_lt, arith}
use Rattle.std.specs.Prelude.{if◌then◌else◌, codes, Option, Result, Ok, Err}
use Rattle.std.specs.List.{list_all, list_any}
use Rattle.jtext.specs.Values.{Json, Members}
use Rattle.jtext.specs.Texts.{Whole, IsWhole}
use Rattle.jtext.specs.declared.json_texts.TheConstants.{DEEPEST}
use Rattle.sheet_base.specs.declared.flags.How.{How}
use Rattle.tin_base.specs.declared.limits.TheConstants.{MOST_CORNERS, MOST_TRIANGLES}
use Rattle.tin_file.specs.Keys.{key_of, values_of, the_one, needed_value, says, is_text, list_of, needed_list}
use Rattle.tin_file.specs.Keys.{when_passed, and_then}
use Rattle.tin_file.specs.Headings.{file_type, file_type_of, version, version_of, strategy, strategy_of, fallback}
use Rattle.tin_file.specs.Headings.{is_horizontal, is_component, components, components_in, place_of, vertex_columns}
use Rattle.tin_file.specs.Headings.{vertex_columns_at, vertex_columns_in, triangle_columns, triangle_columns_at}
use Rattle.tin_file.specs.Headings.{triangle_columns_in, both_columns, heading}
use Rattle.tin_file.specs.Vertices.{few, number_in, vertex_rows, vertices}
use Rattle.tin_file.specs.Triangles.{triangle_rows, triangles}
use Rattle.tin_file.specs.TinFiles.{within_spans, rows_of, reading, IsReadBy, AnswersBy}
use Rattle.tin_file.specs.InsideNodes.{Equals}
use Rattle.tin_file.specs.declared.columns.VertexColumns.{VertexColumns}
use Rattle.tin_file.specs.declared.columns.TriangleColumns.{TriangleColumns}
use Rattle.tin_file.specs.declared.headings.Heading.{Heading}
use Rattle.tin_file.specs.declared.vertices.VertexRow.{VertexRow}
use Rattle.tin_file.specs.declared.faults.Top.{Top}
use Rattle.tin_file.specs.declared.faults.Top.TheVariants as tops
use Rattle.tin_file.specs.declared.faults.Rows.{Rows}
use Rattle.tin_file.specs.declared.faults.Rows.TheVariants as lists
use Rattle.tin_file.specs.declared.faults.Nearest.{Nearest}
use Rattle.tin_file.specs.declared.faults.Nearest.TheVariants as nearest
use Rattle.tin_file.specs.declared.faults.TinFault.{TinFault}
use Rattle.tin_file.specs.declared.faults.TinFault.TheVariants as faults

-- a fault of a value; the faults of heights are those of a reading with a vertical component alone
abbrev pub IsOfValue : Bool → TinFault → Type 0
IsOfValue tall (faults.Json at) = ⊥
IsOfValue tall (faults.Deep at) = ⊥
IsOfValue tall faults.NoMemory = ⊥
IsOfValue tall faults.NoVertical = tall ≡ true
IsOfValue tall (faults.Offset row) = tall ≡ true
IsOfValue tall fault = Unit {0}

abbrev pub IsGoodAt : {A : Type 0} → Bool → Result A TinFault → Type 0
IsGoodAt tall (Ok value) = Unit {0}
IsGoodAt tall (Err fault) = IsOfValue tall fault

pub record IsGood {A : Type 0} (tall : Bool) (r : Result A TinFault) : Type 0 where
  pub is : IsGoodAt tall r

module _ (tall : Bool) where
  pub fine : {A : Type 0} (r : Result A TinFault) → IsGoodAt tall r → IsGood tall r
  fine r h = record { is = h }

  pub good_then : {A B : Type 0} (f : A → Result B TinFault) (r : Result A TinFault) → IsGood tall r
      → ((value : A) → IsGood tall (f value)) → IsGood tall (and_then f r)
  good_then f r h on = grind (arith, fine)

  pub good_checked : {B : Type 0} (r : Result (Unit {0}) TinFault) (next : Result B TinFault) → IsGood tall r → IsGood tall next
      → IsGood tall (when_passed r next)
  good_checked r next h on = grind (arith, fine)

  pub good_if : {A : Type 0} (test : Bool) {x y : Result A TinFault} → IsGood tall x → IsGood tall y → IsGood tall (if test then x else y)
  good_if test h i = grind arith

  good_one : (which : Top) (values : List Json) → IsGood tall (the_one which values)
  good_one which values = grind (arith, fine)

  good_list : (which : Top) (value : Json) → IsGood tall (list_of which value)
  good_list which value = grind (arith, fine)

  pub good_needed_list : (which : Top) (members : Members) → IsGood tall (needed_list which members)
  good_needed_list which members = good_then (list_of which) (needed_value which members)
      (good_one which (values_of (key_of which) members)) (good_list which)

  -- ---- headings
  pub good_file_type : (members : Members) → IsGood tall (file_type members)
  unfolding file_type
  good_file_type members =
      good_then file_type_of (needed_value tops.FileType members)
      (good_one tops.FileType (values_of (key_of tops.FileType) members))
      (λ value. good_if (says value (codes "triangulation_file")) (fine _ tt) (fine _ tt))

  pub good_version : (members : Members) → IsGood tall (version members)
  unfolding version
  good_version members =
      good_then version_of (needed_value tops.FormatVersion members)
      (good_one tops.FormatVersion (values_of (key_of tops.FormatVersion) members))
      (λ value. good_if (says value (codes "1.0")) (fine _ tt)
      (good_if (says value (codes "1.1")) (fine _ tt) (good_if (is_text value) (fine _ tt) (fine _ tt))))

  good_fallback : (how : How) (which : Nearest) → IsGood tall (fallback how which)
  good_fallback how which = good_if how.inside_only (fine _ tt) (fine _ tt)

  good_strategies : (how : How) (values : List Json) → IsGood tall (strategy_of how values)
  good_strategies how values = grind (arith, fine, good_if, good_fallback)

  pub good_strategy : (how : How) (members : Members) → IsGood tall (strategy how members)
  unfolding strategy
  good_strategy how members = good_strategies how (values_of (key_of tops.Strategy) members)

  good_components : (members : Members) → IsGood tall (components members)
  unfolding components
  good_components members =
      good_then components_in (needed_list tops.Components members) (good_needed_list tops.Components members)
      (λ values. good_if (list_all is_component values)
      (good_if (list_any is_horizontal values) (fine _ tt) (fine _ tt)) (fine _ tt))

  good_vertex_places : (count : ℕ) (a b c d : Option ℕ) → IsGood tall (vertex_columns_at count a b c d)
  good_vertex_places count a b c d = grind (arith, fine)

  good_vertex_columns : (members : Members) → IsGood tall (vertex_columns members)
  unfolding vertex_columns
  good_vertex_columns members =
      good_then vertex_columns_in (needed_list tops.VerticesColumns members)
      (good_needed_list tops.VerticesColumns members)
      (λ values. good_if (list_all is_text values)
      (good_vertex_places (length values) (place_of (codes "source_x") values) (place_of (codes "source_y") values)
      (place_of (codes "target_x") values) (place_of (codes "target_y") values))
      (fine _ tt))

  good_triangle_places : (count : ℕ) (a b c : Option ℕ) → IsGood tall (triangle_columns_at count a b c)
  good_triangle_places count a b c = grind (arith, fine)

  pub good_triangle_columns : (members : Members) → IsGood tall (triangle_columns members)
  unfolding triangle_columns
  good_triangle_columns members =
      good_then triangle_columns_in (needed_list tops.TrianglesColumns members)
      (good_needed_list tops.TrianglesColumns members)
      (λ values. good_if (list_all is_text values)
      (good_triangle_places (length values) (place_of (codes "idx_vertex1") values)
      (place_of (codes "idx_vertex2") values) (place_of (codes "idx_vertex3") values)) (fine _ tt))

  good_heading : (how : How) (members : Members) → IsGood tall (heading how members)
  good_heading how members =
      good_checked (file_type members) (when_passed (version members)
      (when_passed (strategy how members) (when_passed (components members) (both_columns members)))) (good_file_type members)
      (good_checked (version members) (when_passed (strategy how members)
      (when_passed (components members) (both_columns members))) (good_version members)
      (good_checked (strategy how members) (when_passed (components members) (both_columns members))
      (good_strategy how members)
      (good_checked (components members) (both_columns members) (good_components members)
      (good_then _ (vertex_columns members) (good_vertex_columns members)
      (λ columns. good_then _ (triangle_columns members) (good_triangle_columns members) (λ others. fine _ tt))))))

  -- ---- rows

  pub good_number : (how : How) (row : ℕ) (value : Json) → IsGood tall (number_in how row value)
  good_number how row value = grind (arith, fine)

  good_vertex_rows : (how : How) (columns : VertexColumns) (row : ℕ) (values : List Json)
      → IsGood tall (vertex_rows how columns row values)
  good_vertex_rows how columns row [] = fine _ tt
  good_vertex_rows how columns row (value ∷ values) = grind (arith, good_vertex_rows how columns (row + 1) values)

  pub good_few : (list : Rows) (most : ℕ) (values : List Json) → IsGood tall (few list most values)
  good_few list most values = good_if (nat_lt most (length values)) (fine _ tt) (fine _ tt)

  good_vertices : (how : How) (columns : VertexColumns) (members : Members) → IsGood tall (vertices how columns members)
  unfolding vertices
  good_vertices how columns members =
      good_then (vertex_rows how columns 0) (and_then (few lists.Vertices MOST_CORNERS)
      (needed_list tops.Vertices members))
      (good_then (few lists.Vertices MOST_CORNERS) (needed_list tops.Vertices members)
      (good_needed_list tops.Vertices members) (good_few lists.Vertices MOST_CORNERS))
      (good_vertex_rows how columns 0)

  good_triangle_rows : (columns : TriangleColumns) (rows triangle : ℕ) (values : List Json)
      → IsGood tall (triangle_rows columns rows triangle values)
  good_triangle_rows columns rows triangle [] = fine _ tt
  good_triangle_rows columns rows triangle (value ∷ values) =
      grind (arith, good_triangle_rows columns rows (triangle + 1) values)

  pub good_triangles : (columns : TriangleColumns) (rows : ℕ) (members : Members) → IsGood tall (triangles columns rows members)
  unfolding triangles
  good_triangles columns rows members =
      good_then (triangle_rows columns rows 0) (and_then (few lists.Triangles MOST_TRIANGLES)
      (needed_list tops.Triangles members))
      (good_then (few lists.Triangles MOST_TRIANGLES) (needed_list tops.Triangles members)
      (good_needed_list tops.Triangles members) (good_few lists.Triangles MOST_TRIANGLES))
      (good_triangle_rows columns rows 0)

  pub good_within : (rows : List VertexRow) (faces : List (List ℕ)) → IsGood tall (within_spans rows faces)
  good_within rows faces = grind (arith, good_checked, fine)

  good_rows : (how : How) (members : Members) (columns : Heading) → IsGood tall (rows_of how members columns)
  good_rows how members columns =
      good_then (λ rows. and_then (within_spans rows) (triangles columns.triangles (length rows) members))
      (vertices how columns.vertices members)
      (good_vertices how columns.vertices members)
      (λ rows. good_then (within_spans rows) (triangles columns.triangles (length rows) members)
      (good_triangles columns.triangles (length rows) members) (good_within rows))

  pub good_reading : (how : How) (value : Json) → IsGood tall (reading how value)
  good_reading how value = grind (arith, good_then, good_heading, good_rows, fine)

  -- ---- the answer to the bytes
  module _ {A : Type 0} (of_value : Json → Result A TinFault) (bytes : List ℕ) where
    pub answer_by : (result wanted : Result A TinFault) → IsGood tall wanted → Equals result wanted
        → ((answer : Result A TinFault) → wanted ≡ answer → IsReadBy of_value bytes answer)
        → AnswersBy of_value bytes result
    answer_by result wanted good h on = grind arith

    pub answer_of : (whole : Whole) (result : Result A TinFault) → IsWhole DEEPEST whole bytes
        → IsGood tall (of_value whole.value) → Equals result (of_value whole.value)
        → AnswersBy of_value bytes result
    answer_of whole result is good same =
        answer_by result (of_value whole.value) good same (λ answer read. (whole, is, read))
