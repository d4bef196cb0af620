-- Vertex rows.
use Rattle.std.specs.Prelude.{ℕ, ◌+◌, not, ◌&&◌, ◌==◌, nat_lt, List, [], ◌∷◌, length, slice_index_or, Result, Ok, Err}
use Rattle.std.specs.Prelude.{if◌then◌else◌}
use Rattle.jtext.specs.Values.{Json, Members, null, numeral, array}
use Rattle.mm_decimal.specs.AnswerValues.{millimetres_of}
use Rattle.mm_decimal.specs.Answers.{loss_of}
use Rattle.mm_decimal.specs.declared.numerals.MmRead.{MmRead}
use Rattle.mm_decimal.specs.declared.numerals.NumFault.{NumFault}
use Rattle.sheet_base.specs.declared.flags.How.{How}
use Rattle.tin_base.specs.declared.limits.TheConstants.{MOST_CORNERS}
use Rattle.tin_file.specs.Keys.{values_in, needed_list, and_then}
use Rattle.tin_file.specs.declared.columns.VertexColumns.{VertexColumns}
use Rattle.tin_file.specs.declared.vertices.VertexRow.{VertexRow}
use Rattle.tin_file.specs.declared.faults.Top.TheVariants as tops
use Rattle.tin_file.specs.declared.faults.Rows.{Rows}
use Rattle.tin_file.specs.declared.faults.Rows.TheVariants as lists
use Rattle.tin_file.specs.declared.faults.TinFault.{TinFault}
use Rattle.tin_file.specs.declared.faults.TinFault.TheVariants.{TooMany, Row, Number, Inexact}

-- at most this many rows
abbrev pub few : Rows → ℕ → List Json → Result (List Json) TinFault
few list most rows = if nat_lt most (length rows) then Err (TooMany list) else Ok rows

abbrev pub number_or_fault : How → ℕ → Result MmRead NumFault → Result MmRead TinFault
number_or_fault how row (Ok read) = if how.exact && not read.exact then Err (Inexact row) else Ok read
number_or_fault how row (Err fault) = Err (Number row fault)

-- the number that a value of this vertex row is
abbrev pub number_in : How → ℕ → Json → Result MmRead TinFault
number_in how row (numeral text) = number_or_fault how row (millimetres_of text)
number_in how row value = Err (Row lists.Vertices row)

-- the first fault of the four numbers, or the corner that they are
abbrev pub vertex_from : Result MmRead TinFault → Result MmRead TinFault → Result MmRead TinFault
    → Result MmRead TinFault → Result VertexRow TinFault
vertex_from (Ok sx) (Ok sy) (Ok tx) (Ok ty) =
    Ok (record {
      corner = record { sx = sx.mm; sy = sy.mm; tx = tx.mm; ty = ty.mm };
      inexact =
          loss_of sx + (loss_of sy + (loss_of tx + loss_of ty));
    })
vertex_from (Err fault) sy tx ty = Err fault
vertex_from (Ok sx) (Err fault) tx ty = Err fault
vertex_from (Ok sx) (Ok sy) (Err fault) ty = Err fault
vertex_from (Ok sx) (Ok sy) (Ok tx) (Err fault) = Err fault

abbrev pub number_at : How → ℕ → List Json → ℕ → Result MmRead TinFault
number_at how row values place = number_in how row (slice_index_or values place null)

-- a row has as many elements as there are columns
abbrev pub vertex_in : How → VertexColumns → ℕ → List Json → Result VertexRow TinFault
vertex_in how columns row values =
    if length values == columns.count
    then vertex_from (number_at how row values columns.source_x) (number_at how row values columns.source_y)
    (number_at how row values columns.target_x) (number_at how row values columns.target_y)
    else Err (Row lists.Vertices row)

abbrev pub vertex_of : How → VertexColumns → ℕ → Json → Result VertexRow TinFault
vertex_of how columns row (array blank elements) = vertex_in how columns row (values_in elements)
vertex_of how columns row value = Err (Row lists.Vertices row)

-- one more in front of the others, or the first fault
abbrev pub in_front : {A : Type 0} → Result A TinFault → Result (List A) TinFault → Result (List A) TinFault
in_front (Ok one) (Ok others) = Ok (one ∷ others)
in_front (Ok one) (Err fault) = Err fault
in_front (Err fault) others = Err fault

-- what the rows are, where the first of them has this number
abbrev pub vertex_rows : How → VertexColumns → ℕ → List Json → Result (List VertexRow) TinFault
vertex_rows how columns row [] = Ok []
vertex_rows how columns row (value ∷ values) =
    in_front (vertex_of how columns row value) (vertex_rows how columns (row + 1) values)

-- `vertices` is an array of at most this many rows
unfoldable pub vertices : How → VertexColumns → Members → Result (List VertexRow) TinFault
vertices how columns members =
    and_then (vertex_rows how columns 0) (and_then (few lists.Vertices MOST_CORNERS)
    (needed_list tops.Vertices members))
