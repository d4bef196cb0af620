-- What the offsets of a file are that is read: one for each corner, none of them great.
use Rattle.std.proofs.Common.{◌≡◌, ℕ, ◌≤◌, List, [], ◌∷◌, ◌++◌, length, map, Bool, true, false}
use Rattle.std.proofs.Common.{zero, suc, ◌<◌, get_or, IfOk, subst, arith}
use Rattle.std.specs.Prelude.{◌*◌, ◌==◌, if◌then◌else◌, Result, Ok, Err, ℤ, pos, neg_ℤ, ◌-ℤ◌, ◌≤ℤ◌, unsigned_abs}
use Rattle.std.specs.List.{All, AllByRecursion}
use Rattle.std.proofs.lemmas.List.Elements.{All-from_get_or}
use Rattle.std.proofs.lemmas.Int.{ints}
use Rattle.std.proofs.lemmas.List.{length-map}
use Rattle.plain_laws.proofs.Lists.{all_push}
use Rattle.jtext.specs.Values.{Json, Members, null, array}
use Rattle.mm_decimal.specs.declared.limits.TheConstants.{LIMIT}
use Rattle.mm_decimal.specs.declared.numerals.MmRead.{MmRead}
use Rattle.sheet_base.specs.declared.flags.How.{How}
use Rattle.tin_base.specs.declared.corners.Corner.{Corner}
use Rattle.tin_base.specs.declared.limits.TheConstants.{MOST_CORNERS}
use Rattle.tin_base.specs.Limits.{IsInReach}
use Rattle.tin_file.specs.Keys.{values_in, needed_list, and_then}
use Rattle.tin_file.specs.Corners.{is_same, corners_of}
use Rattle.tin_file.specs.Vertices.{few, number_at}
use Rattle.tin_file.specs.Triangles.{triangles}
use Rattle.tin_file.specs.TinFiles.{made_of, within_spans}
use Rattle.tin_file.specs.TallVertices.{own_offset, height_offset, offset_in, corner_in, tall_from, tall_of, agreeing}
use Rattle.tin_file.specs.TallVertices.{next_tall, tall_rows, tall_vertices, vertices_in, tall_corners_in, offset_at}
use Rattle.tin_file.specs.TallVertices.{offsets_of}
use Rattle.tin_file.specs.TallFiles.{tall_within_spans, tall_rows_of, tall_reading, IsSmallOffset}
use Rattle.tin_file.specs.InsideNodes.{Equals}
use Rattle.tin_file.specs.Laws.{OffsetsAreOfCorners}
use Rattle.tin_file.specs.declared.tall_columns.OffsetColumns.{OffsetColumns}
use Rattle.tin_file.specs.declared.tall_columns.OffsetColumns.TheVariants as offsets
use Rattle.tin_file.specs.declared.tall_columns.TallColumns.{TallColumns}
use Rattle.tin_file.specs.declared.tall_headings.TallHeading.{TallHeading}
use Rattle.tin_file.specs.declared.tall_vertices.Offset.{Offset}
use Rattle.tin_file.specs.declared.tall_vertices.TallVertex.{TallVertex}
use Rattle.tin_file.specs.declared.tall_files.Tall.{Tall}
use Rattle.tin_file.specs.declared.vertices.VertexRow.{VertexRow}
use Rattle.tin_file.specs.declared.faults.Top.TheVariants as tops
use Rattle.tin_file.specs.declared.faults.Rows.TheVariants as lists
use Rattle.tin_file.specs.declared.faults.TinFault.{TinFault}
use Rattle.tin_file.specs.declared.faults.TinFault.TheVariants.{Row}
use Rattle.tin_file.proofs.CallerLemmas.RowsRead.{ok_of, same_ok, number_reach, ReachOk}
use Rattle.tin_file.proofs.CallerLemmas.Whole.{split_then}
use Rattle.tin_file.proofs.VerticalComponent.TallRows.{corners_same}

-- ---- one row
abs_between : (z : ℤ) (n : ℕ) → neg_ℤ (pos n) ≤ℤ z → z ≤ℤ pos n → unsigned_abs z ≤ n
abs_between z n h i = grind arith

own_small : (z : ℤ) → IsInReach z → IsSmallOffset z
own_small z h = abs_between z (2 * LIMIT) (omega (arith, ints, h.0)) (omega (arith, ints, h.1))

difference_small : (s t : ℤ) → IsInReach s → IsInReach t → IsSmallOffset (t -ℤ s)
difference_small s t h i =
    abs_between (t -ℤ s) (2 * LIMIT) (omega (arith, ints, h.1, i.0)) (omega (arith, ints, h.0, i.1))

own_offset_small : (z : Result MmRead TinFault) → ReachOk z → (offset : Offset) → own_offset z ≡ Ok offset
    → IsSmallOffset offset.offset
own_offset_small z h offset is = grind (arith, same_ok, own_small)

height_offset_small : (s t : Result MmRead TinFault) → ReachOk s → ReachOk t → (offset : Offset)
    → height_offset s t ≡ Ok offset → IsSmallOffset offset.offset
height_offset_small s t h i offset is = grind (arith, same_ok, difference_small)

offset_small : (how : How) (columns : OffsetColumns) (row : ℕ) (values : List Json) (offset : Offset)
    → offset_in how columns row values ≡ Ok offset → IsSmallOffset offset.offset
offset_small how (offsets.Offset z) row values offset is =
    own_offset_small (number_at how row values z) (number_reach how row _) offset is
offset_small how (offsets.Heights s t) row values offset is =
    height_offset_small (number_at how row values s) (number_at how row values t) (number_reach how row _)
    (number_reach how row _) offset is

from_small : (a : Result VertexRow TinFault) (b : Result Offset TinFault) (one : TallVertex) → tall_from a b ≡ Ok one
    → ((offset : Offset) → b ≡ Ok offset → IsSmallOffset offset.offset) → IsSmallOffset one.offset
from_small a b one is h = grind (arith, same_ok)

tall_small : (how : How) (columns : TallColumns) (row : ℕ) (value : Json) (one : TallVertex)
    → tall_of how columns row value ≡ Ok one → IsSmallOffset one.offset
tall_small how columns row (array blank elements) one h = by_test (length (values_in elements) == columns.count) h
  where
    by_test : (test : Bool) → (if test then tall_from (corner_in how columns row (values_in elements))
        (offset_in how columns.offset row (values_in elements)) else Err (Row lists.Vertices row)) ≡ Ok one
        → IsSmallOffset one.offset
    by_test false h = cc
    by_test true h =
        from_small (corner_in how columns row (values_in elements)) (offset_in how columns.offset row (values_in elements)) one
        h (offset_small how columns.offset row (values_in elements))
tall_small how columns row null one h = cc
tall_small how columns row _ one h = cc

-- ---- all rows
abbrev HasSmall : TallVertex → Type 0
HasSmall row = IsSmallOffset row.offset

rows_small : (how : How) (columns : TallColumns) (earlier : List TallVertex) (values : List Json)
    (rows : List TallVertex) → tall_rows how columns earlier values ≡ Ok rows → AllByRecursion HasSmall earlier
    → AllByRecursion HasSmall rows
rows_small how columns earlier [] rows h small = subst (AllByRecursion HasSmall) (same_ok earlier rows h) small
rows_small how columns earlier (value ∷ values) rows h small =
    let (one, next, more) = split_then (λ one. tall_rows how columns (earlier ++ one ∷ []) values)
    (next_tall how columns earlier value) rows h in
    let (read, of, agrees) = split_then (agreeing earlier) (tall_of how columns (length earlier) value) one next in
    rows_small how columns (earlier ++ one ∷ []) values rows more
    (grind (arith, all_push, tall_small))

vertices_small : (how : How) (columns : TallColumns) (members : Members) (rows : List TallVertex)
    → tall_vertices how columns members ≡ Ok rows → AllByRecursion HasSmall rows
unfolding tall_vertices
vertices_small how columns members rows h =
    let (values, found, made) = split_then (tall_rows how columns [])
    (and_then (few lists.Vertices MOST_CORNERS) (needed_list tops.Vertices members)) rows h in
    rows_small how columns [] values rows made tt

-- ---- the offsets of corners
choice_small : (test : Bool) (x y : ℤ) → IsSmallOffset x → IsSmallOffset y → IsSmallOffset (if test then x else y)
choice_small test x y h i = grind arith

at_small : (rows : List TallVertex) (corner : Corner) → AllByRecursion HasSmall rows
    → IsSmallOffset (offset_at rows corner)
at_small [] corner h = omega arith
at_small (row ∷ rows) corner h =
    choice_small (is_same corner row.vertex.corner) row.offset (offset_at rows corner) h.0 (at_small rows corner h.1)

map_small : (rows : List TallVertex) (corners : List Corner) → AllByRecursion HasSmall rows → (i : ℕ)
    → i < length (map (offset_at rows) corners) → IsSmallOffset (get_or (map (offset_at rows) corners) i (pos 0))
map_small rows [] h i within = absurd (omega (arith, within))
map_small rows (corner ∷ corners) h zero within = at_small rows corner h
map_small rows (corner ∷ corners) h (suc i) within = map_small rows corners h i (omega (arith, within))

-- one offset for each corner, none of them great
pub record HasOffsets (tall : Tall) : Type 0 where
  pub each : length tall.offsets ≡ length tall.tin.corners
  pub small : All IsSmallOffset tall.offsets

within_offsets : (rows : List TallVertex) (faces : List (List ℕ)) (tall : Tall) → AllByRecursion HasSmall rows
    → tall_within_spans rows faces ≡ Ok tall → HasOffsets tall
within_offsets rows faces tall small h =
    let (tin, found, made) = split_then (λ tin. Ok (record { tin = tin; offsets = offsets_of rows }))
    (within_spans (vertices_in rows) faces) tall h in
    let is = same_ok (made_of (vertices_in rows) faces) tin (grind arith) in
    subst HasOffsets (same_ok _ tall made) (record {
      each = grind (arith, length-map, corners_same);
      small = All-from_get_or IsSmallOffset (offsets_of rows) (pos 0)
          (map_small rows (corners_of (tall_corners_in rows)) small);
    })

rows_offsets : (how : How) (members : Members) (columns : TallHeading) (tall : Tall)
    → tall_rows_of how members columns ≡ Ok tall → HasOffsets tall
rows_offsets how members columns tall h =
    let (rows, found, made) = split_then (λ rows. and_then (tall_within_spans rows)
    (triangles columns.triangles (length rows) members)) (tall_vertices how columns.vertices members) tall h in
    let (faces, faces_found, whole) = split_then (tall_within_spans rows)
    (triangles columns.triangles (length rows) members) tall made in
    within_offsets rows faces tall (vertices_small how columns.vertices members rows found) whole

reading_offsets : (how : How) (value : Json) (tall : Tall) → tall_reading how value ≡ Ok tall → HasOffsets tall
reading_offsets how value tall h = grind (arith, split_then, rows_offsets)

pub offsets_are_of_corners : OffsetsAreOfCorners
offsets_are_of_corners how bytes tall (whole, is, read) = (reading_offsets how whole.value tall read).each

abbrev HasEach : Result Tall TinFault → Type 0
HasEach r = IfOk r (λ tall. length tall.offsets ≡ length tall.tin.corners)

abbrev HasSmallAll : Result Tall TinFault → Type 0
HasSmallAll r = IfOk r (λ tall. All IsSmallOffset tall.offsets)

pub ok_each : (how : How) (value : Json) (r : Result Tall TinFault) → Equals r (tall_reading how value) → HasEach r
ok_each how value r h = grind (arith, ok_of, reading_offsets)

pub ok_small : (how : How) (value : Json) (r : Result Tall TinFault) → Equals r (tall_reading how value)
    → HasSmallAll r
ok_small how value r h = grind (arith, ok_of, reading_offsets)
