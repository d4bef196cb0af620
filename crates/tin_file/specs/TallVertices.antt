-- Vertex rows with a vertical component, and the offsets of corners.
use Rattle.std.specs.Prelude.{ℕ, ◌+◌, Bool, not, ◌&&◌, ◌==◌, List, [], ◌∷◌, ◌++◌, length, map, Result}
use Rattle.std.specs.Prelude.{Ok, Err, if◌then◌else◌, ℤ, pos, ◌-ℤ◌}
use Rattle.std.specs.List.{list_any}
use Rattle.std.specs.Ordering.{int_eq}
use Rattle.jtext.specs.Values.{Json, Members, array}
use Rattle.mm_decimal.specs.Answers.{loss_of}
use Rattle.mm_decimal.specs.declared.numerals.MmRead.{MmRead}
use Rattle.sheet_base.specs.declared.flags.How.{How}
use Rattle.tin_base.specs.declared.corners.Corner.{Corner}
use Rattle.tin_base.specs.declared.limits.TheConstants.{MOST_CORNERS}
use Rattle.tin_file.specs.Keys.{values_in, needed_list, and_then}
use Rattle.tin_file.specs.Vertices.{few, number_at, vertex_from}
use Rattle.tin_file.specs.Corners.{is_same, corners_of}
use Rattle.tin_file.specs.declared.tall_columns.TargetColumns.{TargetColumns}
use Rattle.tin_file.specs.declared.tall_columns.TargetColumns.TheVariants as targets
use Rattle.tin_file.specs.declared.tall_columns.OffsetColumns.{OffsetColumns}
use Rattle.tin_file.specs.declared.tall_columns.OffsetColumns.TheVariants as offsets
use Rattle.tin_file.specs.declared.tall_columns.TallColumns.{TallColumns}
use Rattle.tin_file.specs.declared.tall_vertices.Offset.{Offset}
use Rattle.tin_file.specs.declared.tall_vertices.TallVertex.{TallVertex}
use Rattle.tin_file.specs.declared.vertices.VertexRow.{VertexRow}
use Rattle.tin_file.specs.declared.faults.Top.TheVariants as tops
use Rattle.tin_file.specs.declared.faults.Rows.TheVariants as lists
use Rattle.tin_file.specs.declared.faults.TinFault.{TinFault}
use Rattle.tin_file.specs.declared.faults.TinFault.TheVariants.{Row, Offset as OtherOffset}

-- ---- one row
-- a corner that stays where it is, or the first fault of its two numbers
abbrev pub still_vertex_from : Result MmRead TinFault → Result MmRead TinFault → Result VertexRow TinFault
still_vertex_from (Ok sx) (Ok sy) =
    Ok (record {
      corner = record { sx = sx.mm; sy = sy.mm; tx = sx.mm; ty = sy.mm };
      inexact = loss_of sx + loss_of sy;
    })
still_vertex_from (Err fault) sy = Err fault
still_vertex_from (Ok sx) (Err fault) = Err fault

-- the corner, by the columns of the target
abbrev pub corner_from : How → ℕ → List Json → Result MmRead TinFault → Result MmRead TinFault → TargetColumns
    → Result VertexRow TinFault
corner_from how row values sx sy (targets.Own x y) =
    vertex_from sx sy (number_at how row values x) (number_at how row values y)
corner_from how row values sx sy targets.OfSource = still_vertex_from sx sy

abbrev pub corner_in : How → TallColumns → ℕ → List Json → Result VertexRow TinFault
corner_in how columns row values =
    corner_from how row values (number_at how row values columns.source_x) (number_at how row values columns.source_y)
    columns.target

-- the offset that is read
abbrev pub own_offset : Result MmRead TinFault → Result Offset TinFault
own_offset (Ok z) = Ok (record { offset = z.mm; inexact = loss_of z })
own_offset (Err fault) = Err fault

-- the target's height less the source's
abbrev pub height_offset : Result MmRead TinFault → Result MmRead TinFault → Result Offset TinFault
height_offset (Ok source) (Ok target) =
    Ok (record { offset = target.mm -ℤ source.mm; inexact = loss_of source + loss_of target })
height_offset (Err fault) target = Err fault
height_offset (Ok source) (Err fault) = Err fault

abbrev pub offset_in : How → OffsetColumns → ℕ → List Json → Result Offset TinFault
offset_in how (offsets.Offset z) row values = own_offset (number_at how row values z)
offset_in how (offsets.Heights source_z target_z) row values =
    height_offset (number_at how row values source_z) (number_at how row values target_z)

-- a corner with its offset, or the first fault of them
abbrev pub tall_from : Result VertexRow TinFault → Result Offset TinFault → Result TallVertex TinFault
tall_from (Ok vertex) (Ok offset) =
    Ok (record {
      vertex = record { corner = vertex.corner; inexact = vertex.inexact + offset.inexact };
      offset = offset.offset;
    })
tall_from (Err fault) offset = Err fault
tall_from (Ok vertex) (Err fault) = Err fault

-- a row has as many elements as there are columns; its numbers are read in the order of the source, the target and the
-- offset
abbrev pub tall_in : How → TallColumns → ℕ → List Json → Result TallVertex TinFault
tall_in how columns row values =
    if length values == columns.count
    then tall_from (corner_in how columns row values) (offset_in how columns.offset row values)
    else Err (Row lists.Vertices row)

abbrev pub tall_of : How → TallColumns → ℕ → Json → Result TallVertex TinFault
tall_of how columns row (array blank elements) = tall_in how columns row (values_in elements)
tall_of how columns row value = Err (Row lists.Vertices row)

-- ---- all rows
-- the row is the same corner with another offset
abbrev pub differs_from : TallVertex → TallVertex → Bool
differs_from one earlier = is_same one.vertex.corner earlier.vertex.corner && not (int_eq earlier.offset one.offset)

-- a row that agrees with those before it
abbrev pub agreeing : List TallVertex → TallVertex → Result TallVertex TinFault
agreeing earlier one = if list_any (differs_from one) earlier then Err (OtherOffset (length earlier)) else Ok one

-- the row after these
abbrev pub next_tall : How → TallColumns → List TallVertex → Json → Result TallVertex TinFault
next_tall how columns earlier value = and_then (agreeing earlier) (tall_of how columns (length earlier) value)

-- all rows, those before them in front
abbrev pub tall_rows : How → TallColumns → List TallVertex → List Json → Result (List TallVertex) TinFault
tall_rows how columns earlier [] = Ok earlier
tall_rows how columns earlier (value ∷ values) =
    and_then (λ one. tall_rows how columns (earlier ++ one ∷ []) values) (next_tall how columns earlier value)

-- `vertices` is an array of at most this many rows
unfoldable pub tall_vertices : How → TallColumns → Members → Result (List TallVertex) TinFault
tall_vertices how columns members =
    and_then (tall_rows how columns []) (and_then (few lists.Vertices MOST_CORNERS) (needed_list tops.Vertices members))

-- ---- the offsets of corners
abbrev pub vertices_in : List TallVertex → List VertexRow
vertices_in rows = map (λ (row : TallVertex). row.vertex) rows

abbrev pub tall_corners_in : List TallVertex → List Corner
tall_corners_in rows = map (λ (row : TallVertex). row.vertex.corner) rows

-- the offset of the first row that is this corner; 0 where none is
abbrev pub offset_at : List TallVertex → Corner → ℤ
offset_at [] corner = pos 0
offset_at (row ∷ rows) corner = if is_same corner row.vertex.corner then row.offset else offset_at rows corner

-- of each corner that of its rows
abbrev pub offsets_of : List TallVertex → List ℤ
offsets_of rows = map (offset_at rows) (corners_of (tall_corners_in rows))
