-- Triangle rows.
use Rattle.std.specs.Prelude.{ℕ, ◌+◌, ◌&&◌, ◌==◌, nat_lt, List, [], ◌∷◌, length, slice_index_or, Option, Some, None}
use Rattle.std.specs.Prelude.{Result, Ok, Err, if◌then◌else◌}
use Rattle.std.specs.Char.{is_ascii_digit}
use Rattle.std.specs.List.{list_all}
use Rattle.jtext.specs.Values.{Json, Members, null, numeral, array}
use Rattle.mm_decimal.specs.Numerals.{number_of}
use Rattle.tin_base.specs.declared.limits.TheConstants.{MOST_TRIANGLES}
use Rattle.tin_file.specs.Keys.{values_in, needed_list, and_then}
use Rattle.tin_file.specs.Vertices.{few, in_front}
use Rattle.tin_file.specs.declared.columns.TriangleColumns.{TriangleColumns}
use Rattle.tin_file.specs.declared.faults.Top.TheVariants as tops
use Rattle.tin_file.specs.declared.faults.Rows.TheVariants as lists
use Rattle.tin_file.specs.declared.faults.TinFault.{TinFault}
use Rattle.tin_file.specs.declared.faults.TinFault.TheVariants.{Row, Index}

-- the number that a text of digits alone writes
abbrev pub whole_number : List ℕ → Option ℕ
whole_number text = if list_all is_ascii_digit text then Some (number_of text) else None

-- the number of a vertex row
abbrev pub row_number : Json → Option ℕ
row_number (numeral text) = whole_number text
row_number value = None

-- three numbers below that of the vertex rows
abbrev pub triangle_from : ℕ → ℕ → Option ℕ → Option ℕ → Option ℕ → Result (List ℕ) TinFault
triangle_from rows triangle (Some first) (Some second) (Some third) =
    if nat_lt first rows && (nat_lt second rows && nat_lt third rows) then Ok (first ∷ second ∷ third ∷ []) else Err
    (Index triangle)
triangle_from rows triangle first second third = Err (Row lists.Triangles triangle)

abbrev pub row_number_at : List Json → ℕ → Option ℕ
row_number_at values place = row_number (slice_index_or values place null)

-- a row has as many elements as there are columns
abbrev pub triangle_in : TriangleColumns → ℕ → ℕ → List Json → Result (List ℕ) TinFault
triangle_in columns rows triangle values =
    if length values == columns.count
    then triangle_from rows triangle (row_number_at values columns.first) (row_number_at values columns.second)
    (row_number_at values columns.third)
    else Err (Row lists.Triangles triangle)

abbrev pub triangle_of : TriangleColumns → ℕ → ℕ → Json → Result (List ℕ) TinFault
triangle_of columns rows triangle (array blank elements) = triangle_in columns rows triangle (values_in elements)
triangle_of columns rows triangle value = Err (Row lists.Triangles triangle)

-- the numbers of the vertex rows of each triangle, where the first triangle has this number
abbrev pub triangle_rows : TriangleColumns → ℕ → ℕ → List Json → Result (List (List ℕ)) TinFault
triangle_rows columns rows triangle [] = Ok []
triangle_rows columns rows triangle (value ∷ values) =
    in_front (triangle_of columns rows triangle value) (triangle_rows columns rows (triangle + 1) values)

-- `triangles` is an array of at most this many rows
unfoldable pub triangles : TriangleColumns → ℕ → Members → Result (List (List ℕ)) TinFault
triangles columns rows members =
    and_then (triangle_rows columns rows 0) (and_then (few lists.Triangles MOST_TRIANGLES)
    (needed_list tops.Triangles members))
