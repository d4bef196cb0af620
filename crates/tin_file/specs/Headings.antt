-- What comes before the rows of a triangulation file (PROJ manual, tinshift, and its JSON schema 1.0 and 1.1).
use Rattle.std.specs.Prelude.{ℕ, ◌+◌, Bool, ◌||◌, codes, List, [], ◌∷◌, length, Option, Some, None, Result, Ok, Err}
use Rattle.std.specs.Prelude.{if◌then◌else◌}
use Rattle.std.specs.List.{list_all, list_any}
use Rattle.jtext.specs.Values.{Json, Members}
use Rattle.sheet_base.specs.declared.flags.How.{How}
use Rattle.tin_file.specs.Keys.{key_of, says, is_text, values_of, needed_value, needed_list, when_passed, and_then}
use Rattle.tin_file.specs.declared.faults.Top.TheVariants as tops
use Rattle.tin_file.specs.declared.faults.Nearest.{Nearest}
use Rattle.tin_file.specs.declared.faults.Nearest.TheVariants as nearest
use Rattle.tin_file.specs.declared.faults.TinFault.{TinFault}
use Rattle.tin_file.specs.declared.faults.TinFault.TheVariants.{Key, Version, Fallback, NoHorizontal}
use Rattle.tin_file.specs.declared.columns.VertexColumns.{VertexColumns}
use Rattle.tin_file.specs.declared.columns.TriangleColumns.{TriangleColumns}
use Rattle.tin_file.specs.declared.headings.Heading.{Heading}

abbrev pub file_type_of : Json → Result (Unit {0}) TinFault
file_type_of value = if says value (codes "triangulation_file") then Ok tt else Err (Key tops.FileType)

-- `file_type` is the one text that it may be
unfoldable pub file_type : Members → Result (Unit {0}) TinFault
file_type members = and_then file_type_of (needed_value tops.FileType members)

abbrev pub version_of : Json → Result (Unit {0}) TinFault
version_of value =
    if says value (codes "1.0") then Ok tt
    else if says value (codes "1.1") then Ok tt
    else if is_text value then Err Version
    else Err (Key tops.FormatVersion)

-- `format_version` is 1.0 or 1.1
unfoldable pub version : Members → Result (Unit {0}) TinFault
version members = and_then version_of (needed_value tops.FormatVersion members)

abbrev pub fallback : How → Nearest → Result (Unit {0}) TinFault
fallback how which = if how.inside_only then Ok tt else Err (Fallback which)

abbrev pub strategy_value : How → Json → Result (Unit {0}) TinFault
strategy_value how value =
    if says value (codes "none") then Ok tt
    else if says value (codes "nearest_side") then fallback how nearest.Side
    else if says value (codes "nearest_centroid") then fallback how nearest.Centroid
    else Err (Key tops.Strategy)

-- a missing `fallback_strategy` means none; another than none is accepted only where it is not to be applied
abbrev pub strategy_of : How → List Json → Result (Unit {0}) TinFault
strategy_of how [] = Ok tt
strategy_of how (value ∷ []) = strategy_value how value
strategy_of how values = Err (Key tops.Strategy)

unfoldable pub strategy : How → Members → Result (Unit {0}) TinFault
strategy how members = strategy_of how (values_of (key_of tops.Strategy) members)

abbrev pub is_horizontal : Json → Bool
is_horizontal value = says value (codes "horizontal")

abbrev pub is_component : Json → Bool
is_component value = says value (codes "horizontal") || says value (codes "vertical")

abbrev pub components_in : List Json → Result (Unit {0}) TinFault
components_in values =
    if list_all is_component values then if list_any is_horizontal values then Ok tt else Err NoHorizontal
    else Err (Key tops.Components)

-- `transformed_components` are horizontal and vertical, and horizontal is among them
unfoldable pub components : Members → Result (Unit {0}) TinFault
components members = and_then components_in (needed_list tops.Components members)

-- at which places the values say this, where the first of them has this place
abbrev pub places_of : List ℕ → ℕ → List Json → List ℕ
places_of name place [] = []
places_of name place (value ∷ values) =
    if says value name then place ∷ places_of name (place + 1) values else places_of name (place + 1) values

abbrev pub the_place : List ℕ → Option ℕ
the_place (place ∷ []) = Some place
the_place places = None

-- the place of the column of this name, where it occurs once
abbrev pub place_of : List ℕ → List Json → Option ℕ
place_of name values = the_place (places_of name 0 values)

abbrev pub vertex_columns_at : ℕ → Option ℕ → Option ℕ → Option ℕ → Option ℕ → Result VertexColumns TinFault
vertex_columns_at count (Some source_x) (Some source_y) (Some target_x) (Some target_y) =
    Ok (record { count = count; source_x = source_x; source_y = source_y; target_x = target_x; target_y = target_y })
vertex_columns_at count source_x source_y target_x target_y = Err (Key tops.VerticesColumns)

abbrev pub vertex_columns_in : List Json → Result VertexColumns TinFault
vertex_columns_in values =
    if list_all is_text values
    then vertex_columns_at (length values) (place_of (codes "source_x") values) (place_of (codes "source_y") values)
    (place_of (codes "target_x") values) (place_of (codes "target_y") values)
    else Err (Key tops.VerticesColumns)

-- `vertices_columns` are texts, and each of the four names is among them once
unfoldable pub vertex_columns : Members → Result VertexColumns TinFault
vertex_columns members = and_then vertex_columns_in (needed_list tops.VerticesColumns members)

abbrev pub triangle_columns_at : ℕ → Option ℕ → Option ℕ → Option ℕ → Result TriangleColumns TinFault
triangle_columns_at count (Some first) (Some second) (Some third) =
    Ok (record { count = count; first = first; second = second; third = third })
triangle_columns_at count first second third = Err (Key tops.TrianglesColumns)

abbrev pub triangle_columns_in : List Json → Result TriangleColumns TinFault
triangle_columns_in values =
    if list_all is_text values
    then triangle_columns_at (length values) (place_of (codes "idx_vertex1") values)
    (place_of (codes "idx_vertex2") values) (place_of (codes "idx_vertex3") values)
    else Err (Key tops.TrianglesColumns)

-- `triangles_columns` are texts, and each of the three names is among them once
unfoldable pub triangle_columns : Members → Result TriangleColumns TinFault
triangle_columns members = and_then triangle_columns_in (needed_list tops.TrianglesColumns members)

-- the columns, each list in turn
abbrev pub both_columns : Members → Result Heading TinFault
both_columns members =
    and_then (λ vertices. and_then (λ triangles. Ok (record { vertices = vertices; triangles = triangles }))
    (triangle_columns members)) (vertex_columns members)

-- the first fault before the rows, or the columns
abbrev pub heading : How → Members → Result Heading TinFault
heading how members =
    when_passed (file_type members) (when_passed (version members)
    (when_passed (strategy how members) (when_passed (components members) (both_columns members))))
