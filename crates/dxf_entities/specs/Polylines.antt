-- Polylines of a drawing, with their vertices in fields (LWPOLYLINE) or in entities of their own (POLYLINE).
use Rattle.std.specs.Prelude.{ℕ, ◌+◌, pos, nat_lt, Bool, ◌&&◌, ◌||◌, if◌then◌else◌, List, [], ◌∷◌, ◌++◌, length, map}
use Rattle.std.specs.Prelude.{sum_by, codes, Option, None, Some, Result, Ok, Err}
use Rattle.std.specs.Str.{bytes_eq}
use Rattle.sheet_base.specs.declared.edits.Edit.{Edit}
use Rattle.sheet_base.specs.declared.edits.What.TheVariants as edits
use Rattle.sheet_base.specs.declared.paths.PathKind.{PathKind}
use Rattle.sheet_base.specs.declared.paths.PathKind.TheVariants as paths
use Rattle.sheet_base.specs.declared.paths.PathRow.{PathRow}
use Rattle.sheet_base.specs.declared.faults.LayerFault.{LayerFault}
use Rattle.sheet_base.specs.declared.faults.LayerFault.TheVariants.{Bulge, Count, Flags, NoEof, Width}
use Rattle.dxf_pairs.specs.declared.pairs.Pair.{Pair}
use Rattle.dxf_pairs.specs.Groups.{value_in}
use Rattle.dxf_entities.specs.Entities.{Entity, is_coded, entity_end}
use Rattle.dxf_entities.specs.Fields.{once, in_turn, entity_fields, field_at, wanted_at, coordinate_of, equals_number}
use Rattle.dxf_entities.specs.Fields.{zero_at}
use Rattle.dxf_entities.specs.Handles.{handle}
use Rattle.dxf_entities.specs.Points.{spot_at}
use Rattle.dxf_entities.specs.declared.drawing.VertexFields.{VertexFields}
use Rattle.dxf_entities.specs.Shapes.{Shape, point_of, lost_of, spot_edits, value_edit}

-- the flags of a plane polyline: 0 and 128 of an open one, 1 and 129 of a closed one
abbrev pub kind_by : List ℕ → Option Pair → Result PathKind LayerFault
kind_by bytes None = Ok paths.Line
kind_by bytes (Some pair) =
    if equals_number bytes 0 pair || equals_number bytes 128 pair then Ok paths.Line
    else if equals_number bytes 1 pair || equals_number bytes 129 pair then Ok paths.Loop
    else Err (Flags pair.line)

abbrev pub kind_of : List ℕ → Entity → Result PathKind LayerFault
kind_of bytes entity = once (field_at (pos 70) entity) (kind_by bytes)

-- without vertices there is no path
abbrev pub kind_with : PathKind → List VertexFields → Option PathKind
kind_with kind [] = None
kind_with kind (vertex ∷ vertices) = Some kind

abbrev pub rows_from : PathKind → ℕ → ℕ → List PathRow
rows_from kind first past = if nat_lt first past then record { kind = kind; first = first; past = past } ∷ [] else []

-- the codes of a vertex's group besides its two numbers
abbrev pub is_group_code : Pair → Bool
is_group_code pair = is_coded (pos 40) pair || is_coded (pos 41) pair || is_coded (pos 42) pair || is_coded (pos 91)
    pair

-- a field of a vertex's group: widths and bulges are zero
abbrev pub fault_in_group : List ℕ → Pair → Option LayerFault
fault_in_group bytes pair =
    if equals_number bytes 0 pair then None
    else if is_coded (pos 40) pair || is_coded (pos 41) pair then Some (Width pair.line)
    else if is_coded (pos 42) pair then Some (Bulge pair.line)
    else None

abbrev pub first_fault : Option LayerFault → Result ℕ LayerFault → Result ℕ LayerFault
first_fault None rest = rest
first_fault (Some fault) rest = Err fault

-- the place past a vertex's group, with which these fields begin, after this place
abbrev pub past_group : List ℕ → ℕ → List Pair → Result ℕ LayerFault
past_group bytes past [] = Ok past
past_group bytes past (pair ∷ pairs) = if is_group_code pair then first_fault (fault_in_group bytes pair)
    (past_group bytes pair.end pairs) else Ok past

-- the vertex of two fields of codes 10 and 20, and of its group among the fields after them
abbrev pub vertex_of : List ℕ → Bool → Pair → Pair → List Pair → Result VertexFields LayerFault
vertex_of bytes exact x y behind =
    once (coordinate_of bytes exact x) (λ east.
    once (coordinate_of bytes exact y) (λ north.
    once (past_group bytes y.end behind) (λ past.
    Ok (record { spot = record { x = east; y = north }; start = x.start; past = past }))))

abbrev pub begins_vertex : Pair → Pair → Bool
begins_vertex pair next = is_coded (pos 10) pair && is_coded (pos 20) next

abbrev pub is_number_pair : Pair → Bool
is_number_pair pair = is_coded (pos 10) pair || is_coded (pos 20) pair

-- the vertices in fields, in order: each field 10 is directly followed by a field 20, and each field 20 follows one
abbrev pub vertices_in : List ℕ → Bool → List Pair → Result (List VertexFields) LayerFault
vertices_in bytes exact [] = Ok []
vertices_in bytes exact (pair ∷ []) = if is_number_pair pair then Err (Count pair.line) else Ok []
vertices_in bytes exact (pair ∷ next ∷ pairs) =
    if begins_vertex pair next
    then once (vertex_of bytes exact pair next pairs) (λ vertex.
    once (vertices_in bytes exact pairs) (λ more.
    Ok (vertex ∷ more)))
    else if is_number_pair pair then Err (Count pair.line)
    else vertices_in bytes exact (next ∷ pairs)

-- the edits of vertices in fields: their values, and room for the crossings after each
abbrev pub vertex_edits : ℕ → List VertexFields → List Edit
vertex_edits point [] = []
vertex_edits point (vertex ∷ vertices) =
    spot_edits point vertex.spot ++ (record { start = vertex.past; end = vertex.past; what = edits.Vertices point }
    ∷ vertex_edits (point + 1) vertices)

abbrev pub as_count : List ℕ → ℕ → Pair → Result Pair LayerFault
as_count bytes number pair = if equals_number bytes number pair then Ok pair else Err (Count pair.line)

-- field 90, which counts the vertices
abbrev pub count_of : List ℕ → ℕ → Entity → Result Pair LayerFault
count_of bytes number entity = once (wanted_at (pos 90) entity) (as_count bytes number)

-- a polyline in one entity
abbrev pub light_shape : PathKind → List VertexFields → Pair → Shape
light_shape kind vertices count = record {
  kind = kind_with kind vertices;
  points = map (λ vertex. point_of vertex.spot) vertices;
  rise = None;
  lost = sum_by (λ vertex. lost_of vertex.spot) vertices;
  dropped = 0;
  edits = λ path first. vertex_edits first vertices ++ value_edit (edits.Tally first (first + length vertices)) count
      ∷ [];
}

abbrev pub light_shapes : List ℕ → Bool → Entity → Result (List Shape) LayerFault
light_shapes bytes exact entity =
    once (kind_of bytes entity) (λ kind.
    once (vertices_in bytes exact (entity_fields entity)) (λ vertices.
    once (count_of bytes (length vertices) entity) (λ count.
    Ok (light_shape kind vertices count ∷ []))))

-- a vertex's entity has no width, no bulge and no flags
abbrev pub plain : List ℕ → Entity → Result (Unit {0}) LayerFault
plain bytes entity =
    once (zero_at bytes Width (pos 40) entity) (λ begin.
    once (zero_at bytes Width (pos 41) entity) (λ end.
    once (zero_at bytes Bulge (pos 42) entity) (λ bulge.
    zero_at bytes Flags (pos 70) entity)))

-- the vertex of an entity of its own
abbrev pub entity_vertex : List ℕ → Bool → Option Pair → Entity → Result VertexFields LayerFault
entity_vertex bytes exact seed entity =
    once (handle seed entity) (λ own.
    once (spot_at bytes exact (pos 10) (pos 20) entity) (λ spot.
    once (plain bytes entity) (λ is.
    Ok (record { spot = spot; start = entity.head.start; past = entity_end entity }))))

-- copies of each vertex take its place
abbrev pub copy_edits : ℕ → List VertexFields → List Edit
copy_edits point [] = []
copy_edits point (vertex ∷ vertices) = record { start = vertex.start; end = vertex.past; what = edits.Vertex point }
    ∷ copy_edits (point + 1) vertices

abbrev pub own_shape : Option PathKind → List VertexFields → Shape
own_shape kind vertices = record {
  kind = kind;
  points = map (λ vertex. point_of vertex.spot) vertices;
  rise = None;
  lost = sum_by (λ vertex. lost_of vertex.spot) vertices;
  dropped = 0;
  edits = λ path first. copy_edits first vertices;
}

-- a polyline with vertices of their own
abbrev pub heavy_shape : PathKind → List VertexFields → Shape
heavy_shape kind vertices = own_shape (kind_with kind vertices) vertices

-- the vertices of entities of their own, in order
abbrev pub own_vertices : List ℕ → Bool → Option Pair → List Entity → Result (List VertexFields) LayerFault
own_vertices bytes exact seed entities =
    in_turn (λ entity. once (entity_vertex bytes exact seed entity) (λ vertex. Ok (vertex ∷ []))) entities

-- the pair after the vertices is that of a SEQEND
abbrev pub ends_polyline : List ℕ → Option Pair → Result (Unit {0}) LayerFault
ends_polyline bytes None = Err NoEof
ends_polyline bytes (Some pair) = if bytes_eq (value_in bytes pair) (codes "SEQEND") then Ok tt else Err
    (Count pair.line)

-- a POLYLINE with its vertices, and with the pair after them
abbrev pub heavy_shapes : List ℕ → Bool → Option Pair → Entity → List Entity → Option Pair
    → Result (List Shape) LayerFault
heavy_shapes bytes exact seed entity vertices behind =
    once (kind_of bytes entity) (λ kind.
    once (own_vertices bytes exact seed vertices) (λ read.
    once (ends_polyline bytes behind) (λ ends.
    Ok (heavy_shape kind read ∷ []))))
