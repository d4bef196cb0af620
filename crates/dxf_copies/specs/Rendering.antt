-- The texts that take the place of edits in a drawing, for given images.
use Rattle.std.specs.Prelude.{ℕ, ℤ, pos, ◌+◌, ◌-◌, ◌*◌, ◌==◌, nat_lt, nat_le, Bool, true, false, if◌then◌else◌, List}
use Rattle.std.specs.Prelude.{[], ◌∷◌, ◌++◌, length, take, drop, filter, sum_by, flat_map, Option, None, Some, Result}
use Rattle.std.specs.Prelude.{Ok, Err}
use Rattle.std.specs.List.{prefix_len, fold}
use Rattle.std.specs.Option.{option_map}
use Rattle.std.specs.Ordering.{int_eq}
use Rattle.std.specs.Fmt.{digits}
use Rattle.plane_base.specs.declared.shapes.Pt.{Pt}
use Rattle.mm_decimal.specs.MetresTexts.{mm_text}
use Rattle.sheet_base.specs.declared.edits.Edit.{Edit}
use Rattle.sheet_base.specs.declared.edits.What.{What}
use Rattle.sheet_base.specs.declared.edits.What.TheVariants as edits
use Rattle.sheet_base.specs.Sheets.{Contents}
use Rattle.sheet_base.specs.Segments.{point_at}
use Rattle.sheet_base.specs.PointHeights.{Position}
use Rattle.sheet_base.specs.ImageFits.{Runs, run_begin, images_of, path_positions}
use Rattle.dxf_pairs.specs.declared.pairs.Pair.{Pair}
use Rattle.dxf_pairs.specs.declared.faults.PairFault.{PairFault}
use Rattle.dxf_pairs.specs.Pairs.{drawing}
use Rattle.dxf_pairs.specs.Lines.{between}
use Rattle.dxf_pairs.specs.Groups.{value_in}
use Rattle.dxf_copies.specs.declared.copies.Copied.{Copied}
use Rattle.dxf_copies.specs.declared.copies.Value.{Value}
use Rattle.dxf_copies.specs.declared.copies.Value.TheVariants as values
use Rattle.dxf_entities.specs.Entities.{Entity, is_coded, entity_of, entity_end}
use Rattle.dxf_entities.specs.Fields.{entity_fields}
use Rattle.dxf_entities.specs.Seeds.{seed_of}

-- a point's image and those of the crossings after it
abbrev pub run_of : Runs → ℕ → List Pt
run_of images point = images_of images point (point + 1)

-- the images of the crossings after a point
abbrev pub crossings_of : Runs → ℕ → List Pt
crossings_of images point = drop 1 (run_of images point)

-- the image of the point of this number
abbrev pub image_of : Runs → ℕ → Pt
image_of images point = point_at images.points (run_begin images point)

-- what is in a copy under a code: numbers of its first point, and of its second, the heights of both and a handle,
-- where it has them
abbrev pub value_for : Copied → ℤ → Option Value
value_for copied code =
    if int_eq code (pos 10) then Some (values.Metres copied.begin.x)
    else if int_eq code (pos 20) then Some (values.Metres copied.begin.y)
    else if int_eq code (pos 11) then option_map (λ (end : Pt). values.Metres end.x) copied.end
    else if int_eq code (pos 21) then option_map (λ (end : Pt). values.Metres end.y) copied.end
    else if int_eq code (pos 30) then option_map values.Metres copied.begin_height
    else if int_eq code (pos 31) then option_map values.Metres copied.end_height
    else if int_eq code (pos 5) then option_map values.Handle copied.handle
    else None

-- a number as metres; a handle in upper-case hexadecimal without leading zeros
abbrev pub value_text : Value → List ℕ
value_text (values.Metres mm) = mm_text mm
value_text (values.Handle number) = digits 16 true number

-- the bytes from one place to before another with the values of these fields replaced
abbrev pub copied_with : (Pair → List ℕ) → List ℕ → ℕ → Pair → Option Value → List ℕ → List ℕ
copied_with rest bytes from pair None same = same
copied_with rest bytes from pair (Some value) same = between from pair.value bytes ++ (value_text value ++ rest pair)

abbrev pub copied_from : List ℕ → Copied → ℕ → List Pair → ℕ → List ℕ
copied_from bytes copied past [] from = between from past bytes
copied_from bytes copied past (pair ∷ pairs) from =
    copied_with (λ (field : Pair). copied_from bytes copied past pairs field.value_end) bytes from pair
    (value_for copied pair.code) (copied_from bytes copied past pairs from)

-- a copy of an entity
abbrev pub copy_text : List ℕ → Copied → Entity → List ℕ
copy_text bytes copied entity = copied_from bytes copied (entity_end entity) (entity_fields entity) entity.head.start

-- the first copy keeps its handle, each further one has the next
abbrev pub new_handle : Bool → ℕ → Option ℕ
new_handle first next = if first then None else Some next

abbrev pub handle_behind : Bool → ℕ → ℕ
handle_behind first next = if first then next else next + 1

-- what a copy of a line's entity has of its own: two images that follow each other, with their heights, and a handle
abbrev pub line_copy : Position → Position → Option ℕ → Copied
line_copy begin end handle = record {
  begin = begin.point;
  end = Some end.point;
  begin_height = begin.height;
  end_height = end.height;
  handle = handle;
}

-- and one of a vertex's: an image, and a handle
abbrev pub vertex_copy : Pt → Option ℕ → Copied
vertex_copy image handle = record {
  begin = image;
  end = None;
  begin_height = None;
  end_height = None;
  handle = handle;
}

-- copies of a line's entity, one between each two images that follow each other
abbrev pub line_copies : List ℕ → Entity → Bool → ℕ → List Position → List ℕ
line_copies bytes entity first next [] = []
line_copies bytes entity first next (begin ∷ []) = []
line_copies bytes entity first next (begin ∷ end ∷ images) =
    copy_text bytes (line_copy begin end (new_handle first next)) entity
    ++ line_copies bytes entity false (handle_behind first next) (end ∷ images)

-- copies of a vertex's entity, one for each image
abbrev pub vertex_copies : List ℕ → Entity → Bool → ℕ → List Pt → List ℕ
vertex_copies bytes entity first next [] = []
vertex_copies bytes entity first next (image ∷ images) =
    copy_text bytes (vertex_copy image (new_handle first next)) entity
    ++ vertex_copies bytes entity false (handle_behind first next) images

-- the two fields of a vertex with other values, their other bytes as they are
abbrev pub field_copy : List ℕ → Pair → Pair → Pt → List ℕ
field_copy bytes x y image = between x.start x.value bytes
    ++ (mm_text image.x ++ (between x.value_end y.value bytes ++ (mm_text image.y ++ between y.value_end y.end bytes)))

abbrev pub field_copies : List ℕ → Option Pair → Option Pair → List Pt → List ℕ
field_copies bytes (Some x) (Some y) images = flat_map (field_copy bytes x y) images
field_copies bytes x y images = []

-- what a drawing is read as, for its edits
pub record Reading : Type 0 where
  pub bytes : List ℕ
  pub pairs : List Pair
  pub sheet : Contents
  pub images : Runs

abbrev pub starts_before : ℕ → Pair → Bool
starts_before place pair = nat_lt pair.start place

-- how many pairs come before this place
abbrev pub number_at : Reading → ℕ → ℕ
number_at read place = prefix_len (starts_before place) read.pairs

abbrev pub first_entity : ℕ → List Pair → Option Entity
first_entity place [] = None
first_entity place (pair ∷ pairs) = if pair.start == place then Some (entity_of pair pairs) else None

-- the entity that starts here
abbrev pub entity_at : Reading → ℕ → Option Entity
entity_at read place = first_entity place (drop (number_at read place) read.pairs)

-- the last of the pairs that has this code
abbrev pub last_coded : ℤ → Option Pair → List Pair → Option Pair
last_coded code before [] = before
last_coded code before (pair ∷ pairs) = last_coded code (if is_coded code pair then Some pair else before) pairs

-- the last pair of this code before this place
abbrev pub coded_before : Reading → ℤ → ℕ → Option Pair
coded_before read code place = last_coded code None (take (number_at read place) read.pairs)

abbrev pub has_handle : Entity → Bool
has_handle entity = nat_lt 0 (length (filter (is_coded (pos 5)) (entity_fields entity)))

-- how many new handles this many copies of an entity take
abbrev pub taken_by : Option Entity → ℕ → ℕ
taken_by None copies = 0
taken_by (Some entity) copies = if has_handle entity then copies - 1 else 0

abbrev pub taken_as : Reading → ℕ → What → ℕ
taken_as read place (edits.Lines path) = taken_by (entity_at read place)
    (length (path_positions read.sheet.paths read.images path) - 1)
taken_as read place (edits.Vertex point) = taken_by (entity_at read place) (length (run_of read.images point))
taken_as read place what = 0

-- how many an edit takes; an edit that replaces nothing takes none
abbrev pub handles_of_edit : Reading → Edit → ℕ
handles_of_edit read edit = if nat_lt edit.start edit.end then taken_as read edit.start edit.what else 0

-- the number of hexadecimal digits of either case
abbrev pub digit_of : ℕ → ℕ
digit_of byte = if nat_le byte 57 then byte - 48 else (if nat_le byte 70 then byte - 55 else byte - 87)

abbrev pub handle_number : List ℕ → ℕ
handle_number text = fold (λ number byte. 16 * number + digit_of byte) 0 text

abbrev pub seed_number : List ℕ → Option Pair → ℕ
seed_number bytes None = 0
seed_number bytes (Some pair) = handle_number (value_in bytes pair)

abbrev pub first_handle : Reading → ℕ
first_handle read = seed_number read.bytes (seed_of read.bytes read.pairs)

abbrev pub is_earlier : ℕ → Edit → Bool
is_earlier place edit = nat_lt edit.start place

-- the next handle where an edit is, by the copies of the edits before it, and after all
abbrev pub next_at : Reading → ℕ → ℕ
next_at read place = first_handle read + sum_by (handles_of_edit read) (filter (is_earlier place) read.sheet.edits)

abbrev pub next_behind : Reading → ℕ
next_behind read = first_handle read + sum_by (handles_of_edit read) read.sheet.edits

-- the next handle's text, which stays where none was given
abbrev pub seed_text : Reading → Edit → List ℕ
seed_text read edit = if next_behind read == first_handle read then between edit.start edit.end read.bytes else digits
    16 true (next_behind read)

abbrev pub line_text : Reading → ℕ → Option Entity → ℕ → List ℕ
line_text read next None path = []
line_text read next (Some entity) path = line_copies read.bytes entity true next
    (path_positions read.sheet.paths read.images path)

abbrev pub vertex_text : Reading → ℕ → Option Entity → ℕ → List ℕ
vertex_text read next None point = []
vertex_text read next (Some entity) point = vertex_copies read.bytes entity true next (run_of read.images point)

-- the text of an edit where the next handle is this one
abbrev pub text_as : Reading → ℕ → Edit → What → List ℕ
text_as read next edit (edits.X point) = mm_text (image_of read.images point).x
text_as read next edit (edits.Y point) = mm_text (image_of read.images point).y
text_as read next edit (edits.Vertices point) =
    field_copies read.bytes (coded_before read (pos 10) edit.start) (coded_before read (pos 20) edit.start)
    (crossings_of read.images point)
text_as read next edit (edits.Tally first past) = digits 10 false (length (images_of read.images first past))
text_as read next edit (edits.Lines path) = line_text read next (entity_at read edit.start) path
text_as read next edit (edits.Vertex point) = vertex_text read next (entity_at read edit.start) point
text_as read next edit edits.NextHandle = seed_text read edit
text_as read next edit what = []

abbrev pub text_of : Reading → Edit → List ℕ
text_of read edit = text_as read (next_at read edit.start) edit edit.what

abbrev pub text_by : Result (List Pair) PairFault → List ℕ → Contents → Runs → Edit → List ℕ
text_by (Ok pairs) bytes sheet images edit =
    text_of (record { bytes = bytes; pairs = pairs; sheet = sheet; images = images }) edit
text_by (Err fault) bytes sheet images edit = []

-- the text that takes the place of an edit's span
abbrev pub drawing_text : List ℕ → Contents → Runs → Edit → List ℕ
drawing_text bytes sheet images edit = text_by (drawing bytes) bytes sheet images edit
