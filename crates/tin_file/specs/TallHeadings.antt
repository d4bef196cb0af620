-- The members before the rows of a triangulation file that transforms heights (PROJ manual, tinshift). Which vertical
-- columns are read, and in which combinations, is this project's own choice.
use Rattle.std.specs.Prelude.{ℕ, Bool, true, false, codes, List, length, Option, Some, None, Result, Ok, Err, if◌then◌else◌}
use Rattle.std.specs.List.{list_all, list_any}
use Rattle.jtext.specs.Values.{Json, Members}
use Rattle.sheet_base.specs.declared.flags.How.{How}
use Rattle.tin_file.specs.Keys.{says, is_text, needed_list, when_passed, and_then}
use Rattle.tin_file.specs.Headings.{file_type, version, strategy, is_horizontal, is_component, place_of, triangle_columns}
use Rattle.tin_file.specs.declared.faults.Top.TheVariants as tops
use Rattle.tin_file.specs.declared.faults.TinFault.{TinFault}
use Rattle.tin_file.specs.declared.faults.TinFault.TheVariants.{Key, NoVertical}
use Rattle.tin_file.specs.declared.tall_columns.TargetColumns.{TargetColumns}
use Rattle.tin_file.specs.declared.tall_columns.TargetColumns.TheVariants.{Own, OfSource}
use Rattle.tin_file.specs.declared.tall_columns.OffsetColumns.{OffsetColumns}
use Rattle.tin_file.specs.declared.tall_columns.OffsetColumns.TheVariants.{Offset, Heights}
use Rattle.tin_file.specs.declared.tall_columns.TallColumns.{TallColumns}
use Rattle.tin_file.specs.declared.tall_headings.TallHeading.{TallHeading}

abbrev pub is_vertical : Json → Bool
is_vertical value = says value (codes "vertical")

-- whether horizontal is among the components, where vertical is
abbrev pub tall_components_in : List Json → Result Bool TinFault
tall_components_in values =
    if list_all is_component values
    then if list_any is_vertical values then Ok (list_any is_horizontal values) else Err NoVertical
    else Err (Key tops.Components)

-- `transformed_components` are horizontal and vertical, and vertical is among them
unfoldable pub tall_components : Members → Result Bool TinFault
tall_components members = and_then tall_components_in (needed_list tops.Components members)

-- both columns of the target; without a horizontal component the target is the source
abbrev pub target_columns_at : Bool → Option ℕ → Option ℕ → Option TargetColumns
target_columns_at false target_x target_y = Some OfSource
target_columns_at true (Some x) (Some y) = Some (Own x y)
target_columns_at true (Some x) None = None
target_columns_at true None target_y = None

abbrev pub target_columns_in : Bool → List Json → Option TargetColumns
target_columns_in is_horizontal values =
    target_columns_at is_horizontal (place_of (codes "target_x") values) (place_of (codes "target_y") values)

-- the column of the offset where some column is named so, else those of both heights
abbrev pub offset_columns_at : Bool → Option ℕ → Option ℕ → Option ℕ → Option OffsetColumns
offset_columns_at true (Some z) source_z target_z = Some (Offset z)
offset_columns_at true None source_z target_z = None
offset_columns_at false offset_z (Some source_z) (Some target_z) = Some (Heights source_z target_z)
offset_columns_at false offset_z (Some source_z) None = None
offset_columns_at false offset_z None target_z = None

abbrev pub offset_columns_in : List Json → Option OffsetColumns
offset_columns_in values =
    offset_columns_at (list_any (λ value. says value (codes "offset_z")) values) (place_of (codes "offset_z") values)
    (place_of (codes "source_z") values) (place_of (codes "target_z") values)

abbrev pub tall_columns_at : ℕ → Option ℕ → Option ℕ → Option TargetColumns → Option OffsetColumns
    → Result TallColumns TinFault
tall_columns_at count (Some source_x) (Some source_y) (Some target) (Some offset) =
    Ok (record { count = count; source_x = source_x; source_y = source_y; target = target; offset = offset })
tall_columns_at count source_x source_y target offset = Err (Key tops.VerticesColumns)

abbrev pub tall_columns_in : Bool → List Json → Result TallColumns TinFault
tall_columns_in is_horizontal values =
    if list_all is_text values
    then tall_columns_at (length values) (place_of (codes "source_x") values) (place_of (codes "source_y") values)
    (target_columns_in is_horizontal values) (offset_columns_in values)
    else Err (Key tops.VerticesColumns)

-- `vertices_columns` are texts, and each name that is wanted is among them once
unfoldable pub tall_columns : Bool → Members → Result TallColumns TinFault
tall_columns is_horizontal members =
    and_then (tall_columns_in is_horizontal) (needed_list tops.VerticesColumns members)

-- the columns, each list in turn
abbrev pub all_columns : Members → Bool → Result TallHeading TinFault
all_columns members is_horizontal =
    and_then (λ vertices. and_then (λ triangles. Ok (record { vertices = vertices; triangles = triangles }))
    (triangle_columns members)) (tall_columns is_horizontal members)

-- the first fault before the rows, or the columns
abbrev pub tall_heading : How → Members → Result TallHeading TinFault
tall_heading how members =
    when_passed (file_type members) (when_passed (version members)
    (when_passed (strategy how members) (and_then (all_columns members) (tall_components members))))
