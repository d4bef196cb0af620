-- What is read of each item of a drawing: the checks in the order of the format's table, then the row of its kind.
use Rattle.std.specs.Prelude.{ℕ, ℤ, pos, Bool, true, ◌&&◌, ◌||◌, if◌then◌else◌, codes, List, [], ◌∷◌, ◌++◌, Option}
use Rattle.std.specs.Prelude.{None, Some, Result, Ok, Err}
use Rattle.std.specs.List.{list_any, list_all}
use Rattle.sheet_base.specs.declared.flags.How.{How}
use Rattle.sheet_base.specs.declared.edits.What.TheVariants.{Drop}
use Rattle.sheet_base.specs.declared.faults.LayerFault.{LayerFault}
use Rattle.sheet_base.specs.declared.faults.LayerFault.TheVariants as faults
use Rattle.dxf_pairs.specs.declared.pairs.Pair.{Pair}
use Rattle.dxf_entities.specs.Entities.{Entity, is_coded, is_of_kind, entity_end}
use Rattle.dxf_entities.specs.Items.{Item, single, polyline}
use Rattle.dxf_entities.specs.Fields.{once, entity_fields, field_at, equals_number, there_as}
use Rattle.dxf_entities.specs.Points.{point_shapes, insert_shapes, text_shapes, line_shapes}
use Rattle.dxf_entities.specs.Polylines.{light_shapes, heavy_shapes}
use Rattle.dxf_entities.specs.Shapes.{Shape}

-- ---- 1. an item whose first entity lies on a layout of paper stays, and nothing is read of it
abbrev pub unless_on_paper : List ℕ → Entity → Result (List Shape) LayerFault → Result (List Shape) LayerFault
unless_on_paper bytes entity rest =
    once (field_at (pos 67) entity) (λ paper.
    if there_as bytes 1 paper then Ok [] else rest)

-- ---- 2. an entity of another kind is left out, or refused
-- the kinds of entities that are read alone
abbrev pub are_read_alone : List ℕ → Entity → Bool
are_read_alone bytes entity =
    is_of_kind bytes (codes "POINT") entity || is_of_kind bytes (codes "LINE") entity || is_of_kind bytes
    (codes "LWPOLYLINE")
    entity
    || is_of_kind bytes (codes "TEXT") entity || is_of_kind bytes (codes "INSERT") entity

abbrev pub left_out : Entity → Shape
left_out entity = record {
  kind = None;
  points = [];
  rise = None;
  lost = 0;
  dropped = 1;
  edits = λ path first. record { start = entity.head.start; end = entity_end entity; what = Drop } ∷ [];
}

abbrev pub other_shapes : How → Entity → Result (List Shape) LayerFault
other_shapes how entity = if how.drop_other then Ok (left_out entity ∷ []) else Err (faults.Entity entity.head.line)

-- ---- 3. the extrusion of an entity, if it has one, is upwards
abbrev pub is_extrusion : Pair → Bool
is_extrusion pair = is_coded (pos 210) pair || is_coded (pos 220) pair || is_coded (pos 230) pair

-- a field of an extrusion is the 0, 0 or 1 of the direction upwards
abbrev pub is_upright : List ℕ → Pair → Bool
is_upright bytes pair = if is_coded (pos 230) pair then equals_number bytes 1 pair else
    (if is_extrusion pair then equals_number bytes 0 pair else true)

abbrev pub any_has_code : ℤ → List Pair → Bool
any_has_code code pairs = list_any (is_coded code) pairs

-- the first field of an extrusion that repeats the code of one before it
abbrev pub repeat_of : List Pair → List Pair → Option Pair
repeat_of before [] = None
repeat_of before (pair ∷ pairs) = if is_extrusion pair && any_has_code pair.code before then Some pair else repeat_of
    (before ++ pair ∷ []) pairs

abbrev pub no_second : Option Pair → Result (Unit {0}) LayerFault
no_second None = Ok tt
no_second (Some pair) = Err (faults.Count pair.line)

abbrev pub upright : List ℕ → Entity → Result (Unit {0}) LayerFault
upright bytes entity = if list_all (is_upright bytes) (entity_fields entity) then no_second
    (repeat_of [] (entity_fields entity))
    else Err (faults.Extrusion entity.head.line)

-- ---- 4. the rows of the kinds that are read alone
abbrev pub shapes_of : List ℕ → How → Option Pair → Entity → Result (List Shape) LayerFault
shapes_of bytes how seed entity =
    if is_of_kind bytes (codes "POINT") entity then point_shapes bytes how.exact entity
    else if is_of_kind bytes (codes "LINE") entity then line_shapes bytes how.exact seed entity
    else if is_of_kind bytes (codes "LWPOLYLINE") entity then light_shapes bytes how.exact entity
    else if is_of_kind bytes (codes "TEXT") entity then text_shapes bytes how.exact entity
    else insert_shapes bytes how.exact entity

-- ---- the checks in order
abbrev pub single_shapes : List ℕ → How → Option Pair → Entity → Result (List Shape) LayerFault
single_shapes bytes how seed entity =
    if are_read_alone bytes entity
    then once (upright bytes entity) (λ flat. shapes_of bytes how seed entity)
    else other_shapes how entity

abbrev pub polyline_shapes : List ℕ → How → Option Pair → Entity → List Entity → Option Pair
    → Result (List Shape) LayerFault
polyline_shapes bytes how seed entity vertices behind =
    once (upright bytes entity) (λ flat. heavy_shapes bytes how.exact seed entity vertices behind)

-- what is read of an item, or its first fault
abbrev pub shapes_of_item : List ℕ → How → Option Pair → Item → Result (List Shape) LayerFault
shapes_of_item bytes how seed (single entity) = unless_on_paper bytes entity (single_shapes bytes how seed entity)
shapes_of_item bytes how seed (polyline entity vertices behind) =
    unless_on_paper bytes entity (polyline_shapes bytes how seed entity vertices behind)
