-- The groups of copies of entities, the handles that copies are given, and whose fields are copied: laws of what is
-- written.
use Rattle.std.specs.Prelude.{◌≡◌, ℕ, ◌+◌, ◌<◌, ◌==◌, ℤ, pos, Bool, true, false, nat_lt, if◌then◌else◌, List, [], ◌∷◌}
use Rattle.std.specs.Prelude.{◌++◌, length, map, take, drop, filter_map, flat_map, Contains, Option, None, Some, Ok}
use Rattle.std.specs.Prelude.{slice_index_or}
use Rattle.std.specs.List.{AllByRecursion, range_with_len}
use Rattle.std.specs.List.Sorted.{IsStrictlyIncreasing}
use Rattle.std.specs.Fmt.{digits}
use Rattle.mm_decimal.specs.MetresTexts.{mm_text}
use Rattle.plane_base.specs.declared.shapes.Pt.{Pt}
use Rattle.sheet_base.specs.declared.edits.Edit.{Edit}
use Rattle.sheet_base.specs.declared.edits.What.{What}
use Rattle.sheet_base.specs.declared.edits.What.TheVariants as edits
use Rattle.sheet_base.specs.declared.flags.How.{How}
use Rattle.sheet_base.specs.declared.paths.PathKind.TheVariants.{Line}
use Rattle.sheet_base.specs.Sheets.{Contents}
use Rattle.sheet_base.specs.Segments.{point_at}
use Rattle.sheet_base.specs.PointHeights.{Position}
use Rattle.sheet_base.specs.ImageFits.{Runs, DoFit, images_of, no_path, path_positions}
use Rattle.sheet_base.specs.Splices.{splice_of}
use Rattle.dxf_pairs.specs.declared.pairs.Pair.{Pair}
use Rattle.dxf_pairs.specs.Groups.{Group, groups_of, group_in, value_in}
use Rattle.dxf_pairs.specs.Pairs.{drawing}
use Rattle.dxf_copies.specs.declared.copies.Copied.{Copied}
use Rattle.dxf_copies.specs.declared.copies.Value.{Value}
use Rattle.dxf_entities.specs.declared.drawing.PointFields.{PointFields}
use Rattle.dxf_entities.specs.declared.drawing.VertexFields.{VertexFields}
use Rattle.dxf_entities.specs.declared.fields.Read.{Read}
use Rattle.dxf_layer.specs.Drawings.{drawing_sheet}
use Rattle.dxf_entities.specs.Entities.{Entity, entity_of, entity_end}
use Rattle.dxf_entities.specs.Fields.{entity_fields, coordinate_of}
use Rattle.dxf_entities.specs.Kinds.{are_read_alone}
use Rattle.dxf_entities.specs.Points.{spot_at}
use Rattle.dxf_entities.specs.Polylines.{vertices_in, count_of}
use Rattle.dxf_entities.specs.Seeds.{seed_of}
use Rattle.dxf_entities.specs.Shapes.{point_of, value_edit}
use Rattle.dxf_copies.specs.Rendering.{Reading, run_of, image_of, value_for, value_text, new_handle, handle_behind}
use Rattle.dxf_copies.specs.Rendering.{line_copies, line_copy, vertex_copy, vertex_copies, coded_before, entity_at}
use Rattle.dxf_copies.specs.Rendering.{has_handle, first_handle, next_at, next_behind, text_of, drawing_text}
use Rattle.dxf_copies.specs.Rendering.{crossings_of}

-- ---- what is written is a drawing
abbrev pub WrittenIsADrawing : Type 0
WrittenIsADrawing =
    (how : How) (bytes : List ℕ) (sheet : Contents) (images : Runs) → drawing_sheet how bytes ≡ Ok sheet
    → DoFit sheet images
    → (pairs : List Pair) × (drawing (splice_of bytes (drawing_text bytes sheet images) sheet.edits) ≡ Ok pairs)

-- ---- what a copy is
-- an entity among these pairs: a pair with others after it, and of those the ones before the next code 0
pub record IsEntityOf (pairs : List Pair) (entity : Entity) : Type 0 where
  pub front : List Pair
  pub next : Pair
  pub behind : List Pair
  pub stands : pairs ≡ front ++ (entity.head ∷ next ∷ behind)
  pub own : entity ≡ entity_of entity.head (next ∷ behind)

-- a value stays where a copy has none of its own
abbrev pub own_or : List ℕ → Option Value → List ℕ
own_or same None = same
own_or same (Some value) = value_text value

-- a field in a copy: under 10, 20, 11, 21, 30, 31 and 5 with the copy's value, where it has one
abbrev pub field_in_copy : List ℕ → Copied → Pair → Group
field_in_copy bytes copied pair = record {
  code = pair.code;
  value =
      own_or (value_in bytes pair) (value_for copied pair.code);
}

-- a copy of an entity: its groups, whose fields have the copy's values; from the first code of 1000 on all stay
abbrev pub groups_of_copy : List ℕ → Entity → Copied → List Group
groups_of_copy bytes entity copied =
    group_in bytes entity.head ∷ (map (field_in_copy bytes copied) (entity_fields entity)
    ++ map (group_in bytes) (drop (length (entity_fields entity)) entity.pairs))

-- what the copies of a line have of their own: two images that follow each other, with their heights, and a handle
-- after the first copy
abbrev pub line_values : Bool → ℕ → List Position → List Copied
line_values first next [] = []
line_values first next (begin ∷ []) = []
line_values first next (begin ∷ end ∷ images) =
    line_copy begin end (new_handle first next)
    ∷ line_values false (handle_behind first next) (end ∷ images)

-- and those of a vertex: an image, and a handle after the first copy
abbrev pub vertex_values : Bool → ℕ → List Pt → List Copied
vertex_values first next [] = []
vertex_values first next (image ∷ images) =
    vertex_copy image (new_handle first next)
    ∷ vertex_values false (handle_behind first next) images

-- the groups of the texts that take the place of a line and of a vertex are those of copies of its entity
abbrev pub CopiesAreOfEntities : Type 0
CopiesAreOfEntities =
    (bytes : List ℕ) (pairs : List Pair) (entity : Entity) → drawing bytes ≡ Ok pairs → IsEntityOf pairs entity
    → (next : ℕ) (positions : List Position) (images : List Pt)
    → (groups_of (line_copies bytes entity true next positions)
    ≡ flat_map (groups_of_copy bytes entity) (line_values true next positions))
    × (groups_of (vertex_copies bytes entity true next images)
    ≡ flat_map (groups_of_copy bytes entity) (vertex_values true next images))

-- ---- the handles
abbrev pub handles_in : List Copied → List ℕ
handles_in copies = filter_map (λ (copied : Copied). copied.handle) copies

abbrev pub values_as : Reading → ℕ → What → List Copied
values_as read place (edits.Lines path) = line_values true (next_at read place)
    (path_positions read.sheet.paths read.images path)
values_as read place (edits.Vertex point) = vertex_values true (next_at read place) (run_of read.images point)
values_as read place what = []

-- an entity without a handle has none in its copies
abbrev pub given_to : Option Entity → List Copied → List ℕ
given_to None copies = []
given_to (Some entity) copies = if has_handle entity then handles_in copies else []

-- the handles that the copies in the place of an edit are given
abbrev pub handles_of_copies : Reading → Edit → List ℕ
handles_of_copies read edit = if nat_lt edit.start edit.end then given_to (entity_at read edit.start)
    (values_as read edit.start edit.what) else []

-- those of all copies, in order of the text
abbrev pub all_given : Reading → List ℕ
all_given read = flat_map (handles_of_copies read) read.sheet.edits

-- the drawing has a next handle, and the sheet an edit that replaces its value
abbrev pub HasNextEdit : Reading → Type 0
HasNextEdit read = (pair : Pair) × (seed_of read.bytes read.pairs ≡ Some pair)
    × Contains read.sheet.edits (value_edit edits.NextHandle pair)

-- they are the numbers from the next handle of the drawing on, no two are the same, and the next handle that is written
-- comes after them: where one is given, there is an edit for it
pub record AreNewHandles (read : Reading) : Type 0 where
  pub numbers : all_given read ≡ range_with_len (first_handle read) (length (all_given read))
  pub differ : IsStrictlyIncreasing (all_given read)
  pub behind : next_behind read ≡ first_handle read + length (all_given read)
  pub below : AllByRecursion (λ handle. handle < next_behind read) (all_given read)
  pub next : 0 < length (all_given read) → HasNextEdit read
  pub written : (edit : Edit) → edit.what ≡ edits.NextHandle → 0 < length (all_given read)
      → text_of read edit ≡ digits 16 true (next_behind read)

abbrev pub HandlesAreNew : Type 0
HandlesAreNew =
    (how : How) (bytes : List ℕ) (pairs : List Pair) (sheet : Contents) (images : Runs) → drawing bytes ≡ Ok pairs
    → drawing_sheet how bytes ≡ Ok sheet
    → AreNewHandles (record { bytes = bytes; pairs = pairs; sheet = sheet; images = images })

-- ---- vertices in fields
-- the last pairs of codes 10 and 20 before the room after a vertex are its own
abbrev pub HasOwnFields : Reading → VertexFields → Type 0
HasOwnFields read vertex = (coded_before read (pos 10) vertex.past ≡ Some vertex.spot.x.pair)
    × (coded_before read (pos 20) vertex.past ≡ Some vertex.spot.y.pair)

abbrev pub VerticesCopyOwnFields : Type 0
VerticesCopyOwnFields =
    (bytes : List ℕ) (pairs : List Pair) (sheet : Contents) (images : Runs) (entity : Entity) (exact : Bool)
    (vertices : List VertexFields) → drawing bytes ≡ Ok pairs → IsEntityOf pairs entity
    → vertices_in bytes exact (entity_fields entity) ≡ Ok vertices
    → AllByRecursion (HasOwnFields (record { bytes = bytes; pairs = pairs; sheet = sheet; images = images })) vertices

-- ---- what an edit writes
-- copies of the entity of the drawing that the edit takes the place of: of a line and of a vertex with their own images,
-- and with the handles that are given there
pub record WritesCopies (read : Reading) (edit : Edit) : Type 0 where
  pub entity : Entity
  pub of_drawing : IsEntityOf read.pairs entity
  pub start : edit.start ≡ entity.head.start
  pub end : edit.end ≡ entity_end entity
  pub found : entity_at read edit.start ≡ Some entity
  pub groups : groups_of (text_of read edit)
      ≡ flat_map (groups_of_copy read.bytes entity) (values_as read edit.start edit.what)

-- the point of the sheet of this number is the one that the fields of two codes of the entity give
pub record IsReadAt (read : Reading) (exact : Bool) (x y : ℤ) (entity : Entity) (point : ℕ) : Type 0 where
  pub spot : PointFields
  pub fields : spot_at read.bytes exact x y entity ≡ Ok spot
  pub is : point_at read.sheet.points point ≡ point_of spot

-- copies in the place of the line from which the path of this number was read
pub record WritesLine (read : Reading) (exact : Bool) (path : ℕ) (edit : Edit) : Type 0 where
  pub copies : WritesCopies read edit
  pub first : ℕ
  pub row : slice_index_or read.sheet.paths path no_path ≡ record { kind = Line; first = first; past = first + 2 }
  pub begin : IsReadAt read exact (pos 10) (pos 20) copies.entity first
  pub end : IsReadAt read exact (pos 11) (pos 21) copies.entity (first + 1)

-- copies in the place of the entity from which the vertex was read that is the point of this number
pub record WritesVertex (read : Reading) (exact : Bool) (point : ℕ) (edit : Edit) : Type 0 where
  pub copies : WritesCopies read edit
  pub vertex : IsReadAt read exact (pos 10) (pos 20) copies.entity point

-- the two fields of a crossing
abbrev pub crossing_groups : Pt → List Group
crossing_groups image = (record { code = pos 10; value = mm_text image.x })
    ∷ (record { code = pos 20; value = mm_text image.y }) ∷ []

-- directly after the fields of a vertex of the drawing, which is the point of this number, these two for each crossing
-- after it, and no others
pub record WritesCrossings (read : Reading) (exact : Bool) (point : ℕ) (edit : Edit) : Type 0 where
  pub entity : Entity
  pub of_drawing : IsEntityOf read.pairs entity
  pub vertices : List VertexFields
  pub read_as : vertices_in read.bytes exact (entity_fields entity) ≡ Ok vertices
  pub vertex : VertexFields
  pub among : Contains vertices vertex
  pub is : point_at read.sheet.points point ≡ point_of vertex.spot
  pub start : edit.start ≡ vertex.past
  pub end : edit.end ≡ vertex.past
  pub groups : groups_of (text_of read edit) ≡ flat_map crossing_groups (crossings_of read.images point)

-- in the place of the value of a field of the drawing that has one of these codes, and from which one number was read,
-- another number as metres
pub record WritesNumber (read : Reading) (exact : Bool) (codes : List ℤ) (was now : ℤ) (edit : Edit) : Type 0 where
  pub entity : Entity
  pub of_drawing : IsEntityOf read.pairs entity
  pub value : Read
  pub among : Contains (entity_fields entity) value.pair
  pub code : Contains codes value.pair.code
  pub read_as : coordinate_of read.bytes exact value.pair ≡ Ok value
  pub is : value.mm ≡ was
  pub start : edit.start ≡ value.pair.value
  pub end : edit.end ≡ value.pair.value_end
  pub text : text_of read edit ≡ mm_text now

-- in the place of the value of the field 90 of a polyline, whose vertices are the points of these numbers, the number of
-- the images of these points, with those of the crossings after them
pub record WritesCount (read : Reading) (exact : Bool) (first past : ℕ) (edit : Edit) : Type 0 where
  pub entity : Entity
  pub of_drawing : IsEntityOf read.pairs entity
  pub vertices : List VertexFields
  pub read_as : vertices_in read.bytes exact (entity_fields entity) ≡ Ok vertices
  pub many : past ≡ first + length vertices
  pub points : take (length vertices) (drop first read.sheet.points) ≡ map (λ (v : VertexFields). point_of v.spot) vertices
  pub field : Pair
  pub counts : count_of read.bytes (length vertices) entity ≡ Ok field
  pub start : edit.start ≡ field.value
  pub end : edit.end ≡ field.value_end
  pub text : text_of read edit ≡ digits 10 false (length (images_of read.images first past))

-- in the place of the value of the next handle, itself where no handle was given, and otherwise the handle after all
-- that were given
pub record WritesNext (read : Reading) (edit : Edit) : Type 0 where
  pub pair : Pair
  pub is : seed_of read.bytes read.pairs ≡ Some pair
  pub start : edit.start ≡ pair.value
  pub end : edit.end ≡ pair.value_end
  pub text : text_of read edit
      ≡ (if next_behind read == first_handle read then value_in read.bytes pair else digits 16 true (next_behind read))

-- nothing in the place of an entity that is not read by itself
pub record LeavesOut (read : Reading) (how : How) (edit : Edit) : Type 0 where
  pub entity : Entity
  pub front : List Pair
  pub behind : List Pair
  pub stands : read.pairs ≡ front ++ (entity.head ∷ behind)
  pub own : entity ≡ entity_of entity.head behind
  pub asked : how.drop_other ≡ true
  pub other : are_read_alone read.bytes entity ≡ false
  pub start : edit.start ≡ entity.head.start
  pub end : edit.end ≡ entity_end entity
  pub text : text_of read edit ≡ []

abbrev pub WritesBy : Reading → How → Edit → What → Type 0
WritesBy read how edit (edits.X point) =
    WritesNumber read how.exact (pos 10 ∷ pos 11 ∷ []) (point_at read.sheet.points point).x
    (image_of read.images point).x edit
WritesBy read how edit (edits.Y point) =
    WritesNumber read how.exact (pos 20 ∷ pos 21 ∷ []) (point_at read.sheet.points point).y
    (image_of read.images point).y edit
WritesBy read how edit (edits.Vertices point) = WritesCrossings read how.exact point edit
WritesBy read how edit (edits.Tally first past) = WritesCount read how.exact first past edit
WritesBy read how edit (edits.Lines path) = WritesLine read how.exact path edit
WritesBy read how edit (edits.Vertex point) = WritesVertex read how.exact point edit
WritesBy read how edit edits.NextHandle = WritesNext read edit
WritesBy read how edit edits.Drop = LeavesOut read how edit
WritesBy read how edit what = ⊥

abbrev pub WritesByKind : Reading → How → Edit → Type 0
WritesByKind read how edit = WritesBy read how edit edit.what

-- so each edit of the sheet of a drawing; it has edits of no other kind
abbrev pub EditsWriteCopies : Type 0
EditsWriteCopies =
    (how : How) (bytes : List ℕ) (pairs : List Pair) (sheet : Contents) (images : Runs) → drawing bytes ≡ Ok pairs
    → drawing_sheet how bytes ≡ Ok sheet
    → AllByRecursion (WritesByKind (record { bytes = bytes; pairs = pairs; sheet = sheet; images = images }) how)
    sheet.edits
