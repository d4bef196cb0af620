-- The entities of a drawing in order as the code goes through them: which are read, which stay, and which are left out.
-- Only private functions speak of it.
use Rattle.std.specs.Prelude.{ℕ, pos, if◌then◌else◌, codes, List, [], ◌∷◌, ◌++◌, Option, Result, Ok, Err}
use Rattle.sheet_base.specs.declared.flags.How.{How}
use Rattle.sheet_base.specs.declared.paths.PathKind.{PathKind}
use Rattle.sheet_base.specs.declared.faults.LayerFault.{LayerFault}
use Rattle.sheet_base.specs.declared.faults.LayerFault.TheVariants as faults
use Rattle.dxf_pairs.specs.declared.pairs.Pair.{Pair}
use Rattle.dxf_entities.specs.declared.drawing.VertexFields.{VertexFields}
use Rattle.dxf_entities.specs.declared.section_places.Where.{Where}
use Rattle.dxf_entities.specs.Entities.{Entity, entity_of, is_of_kind}
use Rattle.dxf_entities.specs.Sections.{is_end_of_section}
use Rattle.dxf_entities.specs.Fields.{field_at, there_as}
use Rattle.dxf_entities.specs.SectionPlaces.{begins_entity}
use Rattle.dxf_entities.specs.Kinds.{upright, shapes_of, are_read_alone, left_out}
use Rattle.dxf_entities.specs.Polylines.{kind_of, entity_vertex, heavy_shape}
use Rattle.sheet_base.specs.Faults.{and_then}
use Rattle.dxf_entities.specs.Shapes.{Shape}

-- where the next entity is: by itself, after a polyline that stays and whose vertices and end stay with it, or
-- after the vertices so far of a polyline that is read
pub data WalkPlace : Type 0 where
  free : WalkPlace
  staying : WalkPlace
  reading : PathKind → List VertexFields → WalkPlace

-- what is read of an entity, and where the next one is
pub record Step : Type 0 where
  pub shapes : List Shape
  pub next : WalkPlace

abbrev pub shapes_read : List Shape → Step
shapes_read shapes = record { shapes = shapes; next = free }

-- an entity of another kind is left out, or refused
abbrev pub other_kind : How → Entity → Result Step LayerFault
other_kind how entity = if how.drop_other then Ok (shapes_read (left_out entity ∷ [])) else Err
    (faults.Entity entity.head.line)

-- an entity on a layout of paper stays, a polyline with all its entities
abbrev pub stays : List ℕ → Entity → Step
stays bytes entity = record { shapes = []; next = if is_of_kind bytes (codes "POLYLINE") entity then staying else free }

-- a polyline with vertices of their own is read with the entities after it
abbrev pub polyline_step : List ℕ → Entity → Result Step LayerFault
polyline_step bytes entity = and_then (λ flat. and_then (λ kind. Ok (record { shapes = []; next = reading kind [] }))
    (kind_of bytes entity)) (upright bytes entity)

abbrev pub alone_step : List ℕ → How → Option Pair → Entity → Result Step LayerFault
alone_step bytes how seed entity = and_then
    (λ flat. and_then (λ shapes. Ok (shapes_read shapes)) (shapes_of bytes how seed entity)) (upright bytes entity)

-- an entity by its kind
abbrev pub by_kind : List ℕ → How → Option Pair → Entity → Result Step LayerFault
by_kind bytes how seed entity =
    if is_of_kind bytes (codes "POLYLINE") entity then polyline_step bytes entity
    else if are_read_alone bytes entity then alone_step bytes how seed entity
    else other_kind how entity

-- an entity that is by itself; what ends a section is no entity
abbrev pub step_free : List ℕ → How → Option Pair → Entity → Result Step LayerFault
step_free bytes how seed entity =
    if is_end_of_section bytes entity.head then Ok (shapes_read [])
    else and_then (λ paper. if there_as bytes 1 paper then Ok (stays bytes entity) else by_kind bytes how seed
    entity) (field_at (pos 67) entity)

-- an entity after a polyline that stays
abbrev pub step_staying : List ℕ → How → Option Pair → Entity → Result Step LayerFault
step_staying bytes how seed entity =
    if is_of_kind bytes (codes "VERTEX") entity then Ok (record { shapes = []; next = staying })
    else if is_of_kind bytes (codes "SEQEND") entity then Ok (shapes_read [])
    else step_free bytes how seed entity

-- an entity after the vertices of a polyline that is read
abbrev pub step_reading : List ℕ → How → Option Pair → PathKind → List VertexFields → Entity → Result Step LayerFault
step_reading bytes how seed kind vertices entity =
    if is_of_kind bytes (codes "VERTEX") entity
    then and_then (λ vertex. Ok (record { shapes = []; next = reading kind (vertices ++ vertex ∷ []) }))
    (entity_vertex bytes how.exact seed entity)
    else if is_of_kind bytes (codes "SEQEND") entity then Ok (shapes_read (heavy_shape kind vertices ∷ []))
    else Err (faults.Count entity.head.line)

-- an entity where it is
abbrev pub step : List ℕ → How → Option Pair → WalkPlace → Entity → Result Step LayerFault
step bytes how seed free entity = step_free bytes how seed entity
step bytes how seed staying entity = step_staying bytes how seed entity
step bytes how seed (reading kind vertices) entity = step_reading bytes how seed kind vertices entity

-- where the entities end; a drawing that ends within a polyline would have no end
abbrev pub walk_end : WalkPlace → Result (List Shape) LayerFault
walk_end free = Ok []
walk_end staying = Ok []
walk_end (reading kind vertices) = Err faults.NoEof

-- the shapes of entities in order, or the first fault
abbrev pub walk_of : List ℕ → How → Option Pair → WalkPlace → List Entity → Result (List Shape) LayerFault
walk_of bytes how seed place [] = walk_end place
walk_of bytes how seed place (entity ∷ entities) =
    and_then (λ here. and_then (λ more. Ok (here.shapes ++ more)) (walk_of bytes how seed here.next entities))
    (step bytes how seed place entity)

-- what is read at the first of the pairs, which is here in the sections: the entity that it begins, or nothing
abbrev pub visit_of : List ℕ → How → Option Pair → Where → WalkPlace → List Pair → Result Step LayerFault
visit_of bytes how seed section place [] = Ok (record { shapes = []; next = place })
visit_of bytes how seed section place (pair ∷ pairs) =
    if begins_entity section pair then step bytes how seed place (entity_of pair pairs) else Ok
    (record { shapes = []; next = place })
