-- Steps by the kind of an entity, and by its groups alone.
use Rattle.std.proofs.Common.{◌≡◌, ℕ, pos, Bool, true, false, cond, refl, List, [], ◌∷◌, Option, None, Result, Ok, Err}
use Rattle.std.proofs.Common.{codes, ap, Some, ◌++◌, map}
use Rattle.std.proofs.lemmas.List.{map-append}
use Rattle.plane_base.specs.declared.shapes.Pt.{Pt}
use Rattle.sheet_base.specs.declared.edits.What.TheVariants as edits
use Rattle.sheet_base.specs.declared.flags.How.{How}
use Rattle.sheet_base.specs.declared.paths.PathKind.{PathKind}
use Rattle.sheet_base.specs.declared.faults.LayerFault.{LayerFault}
use Rattle.sheet_base.specs.declared.faults.LayerFault.TheVariants as faults
use Rattle.sheet_base.specs.Faults.{and_then}
use Rattle.dxf_pairs.specs.declared.pairs.Pair.{Pair}
use Rattle.dxf_pairs.specs.Groups.{group_in}
use Rattle.dxf_entities.specs.Entities.{Entity, entity_end, is_of_kind}
use Rattle.dxf_entities.specs.Sections.{is_end_of_section}
use Rattle.dxf_entities.specs.Fields.{field_at, there_as}
use Rattle.dxf_entities.specs.Shapes.{Shape}
use Rattle.dxf_entities.specs.Polylines.{kind_of, entity_vertex, heavy_shape}
use Rattle.dxf_entities.specs.Kinds.{upright, shapes_of, are_read_alone}
use Rattle.dxf_entities.specs.declared.drawing.VertexFields.{VertexFields}
use Rattle.dxf_entities.specs.declared.section_places.Where.TheVariants.{Outside}
use Rattle.dxf_entities.specs.SectionPlaces.{entities_from, seed_from}
use Rattle.dxf_layer.specs.InsideWalks.{staying, reading, Step, shapes_read, stays, polyline_step, alone_step, by_kind}
use Rattle.dxf_layer.specs.InsideWalks.{step_free, step_staying, WalkPlace, free, other_kind, step_reading, step}
use Rattle.dxf_layer.specs.InsideWalks.{walk_end, walk_of}
use Rattle.dxf_entities.proofs.Members.{went}
use Rattle.dxf_entities.proofs.GroupShapes.{next, told, chain, either_told, groups_in, itself, field_told}
use Rattle.dxf_entities.proofs.GroupShapes.{there_as_told, outlines, is_seeded, Outline, outline, flat_outline}
use Rattle.dxf_entities.proofs.GroupShapes.{kind_told, spots_of, kind_with_told, spot_point, light_outline, own_told}
use Rattle.dxf_entities.proofs.GroupShapes.{entity_told, upright_told, left_out as other_path, outlines_in, shapes_told}
use Rattle.dxf_copies.proofs.GroupDrawings.{IsReadSo, alone, Spot, Turn, turn_of, some_turn, other_turn, stays_turn}
use Rattle.dxf_copies.proofs.GroupDrawings.{opened, polyline_turn, alone_turn, turn_by_kind, free_turn, kept_turn}
use Rattle.dxf_copies.proofs.GroupDrawings.{open_line, open_turn, turn, last_turn, in_front, walk, entities_are}
use Rattle.dxf_copies.proofs.GroupDrawings.{seeded_told, outlines_of, kept}

-- ---- the steps of a walk by their kinds
-- an entity that is not on paper
pub record IsOffPaper (bytes : List ℕ) (entity : Entity) : Type 0 where
  pub goes_on : is_end_of_section bytes entity.head ≡ false
  pub paper : Option Pair
  pub paper_is : field_at (pos 67) entity ≡ Ok paper
  pub off_paper : there_as bytes 1 paper ≡ false

pub record IsOnPaper (bytes : List ℕ) (entity : Entity) (here : Step) : Type 0 where
  pub goes_on : is_end_of_section bytes entity.head ≡ false
  pub paper : Option Pair
  pub paper_is : field_at (pos 67) entity ≡ Ok paper
  pub on_paper : there_as bytes 1 paper ≡ true
  pub here_is : here ≡ stays bytes entity

pub record IsOpened (bytes : List ℕ) (entity : Entity) (here : Step) : Type 0 where
  pub off : IsOffPaper bytes entity
  pub polyline : is_of_kind bytes (codes "POLYLINE") entity ≡ true
  pub flat : upright bytes entity ≡ Ok tt
  pub kind : PathKind
  pub kind_is : kind_of bytes entity ≡ Ok kind
  pub here_is : here ≡ record { shapes = []; next = reading kind [] }

pub record IsAlone (bytes : List ℕ) (how : How) (seed : Option Pair) (entity : Entity) (here : Step) : Type 0 where
  pub shapes : List Shape
  pub read : IsReadSo bytes how seed entity shapes
  pub here_is : here ≡ shapes_read shapes

abbrev pub dropped : Entity → Shape
dropped entity = record {
  kind = None;
  points = [];
  rise = None;
  lost = 0;
  dropped = 1;
  edits = λ path first. record { start = entity.head.start; end = entity_end entity; what = edits.Drop } ∷ [];
}

pub record IsLeft (bytes : List ℕ) (entity : Entity) (here : Step) : Type 0 where
  pub off : IsOffPaper bytes entity
  pub here_is : here ≡ shapes_read (dropped entity ∷ [])

pub record IsLast (bytes : List ℕ) (entity : Entity) (here : Step) : Type 0 where
  pub ends : is_end_of_section bytes entity.head ≡ true
  pub here_is : here ≡ shapes_read []

pub data FreeStep (bytes : List ℕ) (how : How) (seed : Option Pair) (entity : Entity) (here : Step) : Type 0 where
  at_end : IsLast bytes entity here → FreeStep bytes how seed entity here
  on_paper : IsOnPaper bytes entity here → FreeStep bytes how seed entity here
  opens : IsOpened bytes entity here → FreeStep bytes how seed entity here
  by_itself : IsAlone bytes how seed entity here → FreeStep bytes how seed entity here
  left_out : IsLeft bytes entity here → FreeStep bytes how seed entity here

unit_is : (u : Unit {0}) (r : Result (Unit {0}) LayerFault) → r ≡ Ok u → r ≡ Ok tt
unit_is u r is = is

kinds_step : (bytes : List ℕ) (how : How) (seed : Option Pair) (entity : Entity) (here : Step) → IsOffPaper bytes entity
    → by_kind bytes how seed entity ≡ Ok here → FreeStep bytes how seed entity here
kinds_step bytes how seed entity here off is =
    by_tests (is_of_kind bytes (codes "POLYLINE") entity) (are_read_alone bytes entity) how.drop_other refl refl refl is
  where
    by_tests : (polyline lone drop : Bool) → is_of_kind bytes (codes "POLYLINE") entity ≡ polyline
        → are_read_alone bytes entity ≡ lone → how.drop_other ≡ drop → cond polyline (polyline_step bytes entity)
        (cond lone (alone_step bytes how seed entity)
        (cond drop (Ok (shapes_read (dropped entity ∷ []))) (Err (faults.Entity entity.head.line)))) ≡ Ok here
        → FreeStep bytes how seed entity here
    by_tests true lone drop polyline_is lone_is drop_is made =
        let flat = went _ (upright bytes entity) here made in
        let found = went _ (kind_of bytes entity) here flat.gives in
        let same : here ≡ record { shapes = []; next = reading found.value [] } = cc in opens (record {
          off = off;
          polyline = polyline_is;
          flat = unit_is _ _ flat.is;
          kind = found.value;
          kind_is = found.is;
          here_is = same;
        })
    by_tests false true drop polyline_is lone_is drop_is made =
        let flat = went _ (upright bytes entity) here made in
        let found = went _ (shapes_of bytes how seed entity) here flat.gives in
        let same : here ≡ shapes_read found.value = cc in by_itself (record {
          shapes = found.value;
          read = record {
            goes_on = off.goes_on;
            paper = off.paper;
            paper_is = off.paper_is;
            off_paper = off.off_paper;
            polyline = polyline_is;
            alone = lone_is;
            flat = unit_is _ _ flat.is;
            shapes_are = found.is;
          };
          here_is = same;
        })
    by_tests false false true polyline_is lone_is drop_is made = left_out (record { off = off; here_is = cc })
    by_tests false false false polyline_is lone_is drop_is made = absurd (cc)

pub free_step : (bytes : List ℕ) (how : How) (seed : Option Pair) (entity : Entity) (here : Step)
    → step_free bytes how seed entity ≡ Ok here → FreeStep bytes how seed entity here
free_step bytes how seed entity here is = by_end (is_end_of_section bytes entity.head) refl is where
  by_paper : (paper : Option Pair) → is_end_of_section bytes entity.head ≡ false → field_at (pos 67) entity ≡ Ok paper
      → (on : Bool) → there_as bytes 1 paper ≡ on
      → cond on (Ok (stays bytes entity)) (by_kind bytes how seed entity) ≡ Ok here
      → FreeStep bytes how seed entity here
  by_paper paper goes_on paper_is true on made =
      on_paper (record { goes_on = goes_on; paper = paper; paper_is = paper_is; on_paper = on; here_is = cc })
  by_paper paper goes_on paper_is false on made = kinds_step bytes how seed entity here (record {
    goes_on = goes_on;
    paper = paper;
    paper_is = paper_is;
    off_paper = on;
  }) made

  by_end : (ends : Bool) → is_end_of_section bytes entity.head ≡ ends → cond ends (Ok (shapes_read [])) (and_then
      (λ (paper : Option Pair). cond (there_as bytes 1 paper) (Ok (stays bytes entity))
      (by_kind bytes how seed entity)) (field_at (pos 67) entity)) ≡ Ok here → FreeStep bytes how seed entity here
  by_end true ends made = at_end (record { ends = ends; here_is = cc })
  by_end false ends made =
      let found = went _ (field_at (pos 67) entity) here made in
      by_paper found.value ends found.is (there_as bytes 1 found.value) refl found.gives

pub record IsKeptVertex (bytes : List ℕ) (entity : Entity) (here : Step) : Type 0 where
  pub is_vertex : is_of_kind bytes (codes "VERTEX") entity ≡ true
  pub here_is : here ≡ record { shapes = []; next = staying }

pub record IsKeptEnd (bytes : List ℕ) (entity : Entity) (here : Step) : Type 0 where
  pub no_vertex : is_of_kind bytes (codes "VERTEX") entity ≡ false
  pub is_end : is_of_kind bytes (codes "SEQEND") entity ≡ true
  pub here_is : here ≡ shapes_read []

pub record IsKeptOther (bytes : List ℕ) (how : How) (seed : Option Pair) (entity : Entity) (here : Step) : Type 0 where
  pub no_vertex : is_of_kind bytes (codes "VERTEX") entity ≡ false
  pub no_end : is_of_kind bytes (codes "SEQEND") entity ≡ false
  pub other : step_free bytes how seed entity ≡ Ok here

pub data KeptStep (bytes : List ℕ) (how : How) (seed : Option Pair) (entity : Entity) (here : Step) : Type 0 where
  kept_vertex : IsKeptVertex bytes entity here → KeptStep bytes how seed entity here
  kept_end : IsKeptEnd bytes entity here → KeptStep bytes how seed entity here
  as_free : IsKeptOther bytes how seed entity here → KeptStep bytes how seed entity here

pub kept_step : (bytes : List ℕ) (how : How) (seed : Option Pair) (entity : Entity) (here : Step)
    → step_staying bytes how seed entity ≡ Ok here → KeptStep bytes how seed entity here
kept_step bytes how seed entity here is = by_tests (is_of_kind bytes (codes "VERTEX") entity)
    (is_of_kind bytes (codes "SEQEND") entity) refl refl is where
      by_tests : (vertex end : Bool) → is_of_kind bytes (codes "VERTEX") entity ≡ vertex
          → is_of_kind bytes (codes "SEQEND") entity ≡ end → cond vertex (Ok (record { shapes = []; next = staying }))
          (cond end (Ok (shapes_read [])) (step_free bytes how seed entity)) ≡ Ok here
          → KeptStep bytes how seed entity here
      by_tests true end vertex_is end_is made = kept_vertex (record { is_vertex = vertex_is; here_is = cc })
      by_tests false true vertex_is end_is made =
          kept_end (record { no_vertex = vertex_is; is_end = end_is; here_is = cc })
      by_tests false false vertex_is end_is made =
          as_free (record { no_vertex = vertex_is; no_end = end_is; other = made })

-- a step after the vertices so far: one vertex more, or the end of the polyline
pub record IsVertexStep (bytes : List ℕ) (how : How) (seed : Option Pair) (kind : PathKind) (vertices : List VertexFields)
    (entity : Entity) (here : Step) : Type 0 where
  pub is_vertex : is_of_kind bytes (codes "VERTEX") entity ≡ true
  pub vertex : VertexFields
  pub vertex_is : entity_vertex bytes how.exact seed entity ≡ Ok vertex
  pub here_is : here ≡ record { shapes = []; next = reading kind (vertices ++ vertex ∷ []) }

pub record IsEndStep (bytes : List ℕ) (kind : PathKind) (vertices : List VertexFields) (entity : Entity) (here : Step) : Type
    0 where
  pub no_vertex : is_of_kind bytes (codes "VERTEX") entity ≡ false
  pub is_end : is_of_kind bytes (codes "SEQEND") entity ≡ true
  pub here_is : here ≡ shapes_read (heavy_shape kind vertices ∷ [])

pub data ReadingStep (bytes : List ℕ) (how : How) (seed : Option Pair) (kind : PathKind) (vertices : List VertexFields)
    (entity : Entity) (here : Step) : Type 0 where
  one_vertex : IsVertexStep bytes how seed kind vertices entity here
      → ReadingStep bytes how seed kind vertices entity here
  the_end : IsEndStep bytes kind vertices entity here → ReadingStep bytes how seed kind vertices entity here

pub reading_step : (bytes : List ℕ) (how : How) (seed : Option Pair) (kind : PathKind) (vertices : List VertexFields)
    (entity : Entity) (here : Step) → step_reading bytes how seed kind vertices entity ≡ Ok here
    → ReadingStep bytes how seed kind vertices entity here
reading_step bytes how seed kind vertices entity here is =
    by_test (is_of_kind bytes (codes "VERTEX") entity) (is_of_kind bytes (codes "SEQEND") entity) refl refl is where
      by_test : (vertex end : Bool) → is_of_kind bytes (codes "VERTEX") entity ≡ vertex
          → is_of_kind bytes (codes "SEQEND") entity ≡ end → cond vertex (and_then (λ (v : VertexFields). Ok
          (record { shapes = []; next = reading kind (vertices ++ v ∷ []) }))
          (entity_vertex bytes how.exact seed entity))
          (cond end (Ok (shapes_read (heavy_shape kind vertices ∷ []))) (Err (faults.Count entity.head.line))) ≡ Ok here
          → ReadingStep bytes how seed kind vertices entity here
      by_test true end is_vertex is_end made =
          let found = went _ (entity_vertex bytes how.exact seed entity) here made in
          let same : here ≡ record { shapes = []; next = reading kind (vertices ++ found.value ∷ []) } = cc in
          one_vertex (record { is_vertex = is_vertex; vertex = found.value; vertex_is = found.is; here_is = same })
      by_test false true is_vertex is_end made =
          the_end (record { no_vertex = is_vertex; is_end = is_end; here_is = cc })
      by_test false false is_vertex is_end made = absurd (cc)

-- what is read of an entity, and of those after it
pub record Walked (bytes : List ℕ) (how : How) (seed : Option Pair) (place : WalkPlace) (entity : Entity)
    (entities : List Entity) (shapes : List Shape) : Type 0 where
  pub here : Step
  pub more : List Shape
  pub step_is : step bytes how seed place entity ≡ Ok here
  pub more_is : walk_of bytes how seed here.next entities ≡ Ok more
  pub shapes_are : shapes ≡ here.shapes ++ more

pub walked_on : (bytes : List ℕ) (how : How) (seed : Option Pair) (place : WalkPlace) (entity : Entity)
    (entities : List Entity) (shapes : List Shape) → walk_of bytes how seed place (entity ∷ entities) ≡ Ok shapes
    → Walked bytes how seed place entity entities shapes
walked_on bytes how seed place entity entities shapes is =
    let first = went _ (step bytes how seed place entity) shapes is in
    let rest = went _ (walk_of bytes how seed first.value.next entities) shapes first.gives in
    record { here = first.value; more = rest.value; step_is = first.is; more_is = rest.is; shapes_are = cc }

pub end_is : (place : WalkPlace) (shapes : List Shape) → walk_end place ≡ Ok shapes → shapes ≡ []
end_is free shapes is = cc
end_is staying shapes is = cc
end_is (reading kind vertices) shapes is = absurd (cc)

-- ---- the code's steps from entity to entity are those by groups
abbrev pub spot_told : WalkPlace → Spot
spot_told free = alone
spot_told staying = kept
spot_told (reading kind vertices) = open_line kind (spots_of vertices)

abbrev pub turn_told : Step → Turn
turn_told here = record { shapes = outlines here.shapes; next = spot_told here.next }

other_told : (how : How) (entity : Entity) → told turn_told (other_kind how entity) ≡ other_turn how
other_told how entity = by_test how.drop_other where
  by_test : (dropped : Bool) → told turn_told (cond dropped (Ok (shapes_read (record {
    kind = None;
    points = [];
    rise = None;
    lost = 0;
    dropped = 1;
    edits = λ path first. record { start = entity.head.start; end = entity_end entity; what = edits.Drop } ∷ [];
  } ∷ []))) (Err (faults.Entity entity.head.line))) ≡ cond dropped (Some (turn_of (other_path ∷ []))) None
  by_test true = refl
  by_test false = refl

stays_told : (bytes : List ℕ) (entity : Entity) → turn_told (stays bytes entity) ≡ stays_turn (entity_told bytes entity)
stays_told bytes entity = by_test (is_of_kind bytes (codes "POLYLINE") entity) where
  by_test : (polyline : Bool) → turn_told (record { shapes = []; next = cond polyline staying free })
      ≡ record { shapes = []; next = cond polyline kept alone }
  by_test true = refl
  by_test false = refl

polyline_told : (bytes : List ℕ) (entity : Entity)
    → told turn_told (polyline_step bytes entity) ≡ polyline_turn (groups_in bytes entity)
polyline_told bytes entity =
    let fields = groups_in bytes entity in
    chain itself turn_told _ _ (upright bytes entity) _ (upright_told bytes entity) (λ flat. chain itself turn_told _
    opened (kind_of bytes entity) _ (kind_told bytes entity) (λ kind. refl))

alone_told : (bytes : List ℕ) (how : How) (seed : Option Pair) (entity : Entity)
    → told turn_told (alone_step bytes how seed entity) ≡ alone_turn how (is_seeded seed) (entity_told bytes entity)
alone_told bytes how seed entity =
    let shapes = outlines_in how (is_seeded seed) (entity_told bytes entity) in
    chain itself turn_told _ _ (upright bytes entity) _ (upright_told bytes entity) (λ flat. chain outlines turn_told _
    some_turn (shapes_of bytes how seed entity) shapes (shapes_told bytes how seed entity) (λ shapes. refl))

kinds_told : (bytes : List ℕ) (how : How) (seed : Option Pair) (entity : Entity)
    → told turn_told (by_kind bytes how seed entity) ≡ turn_by_kind how (is_seeded seed) (entity_told bytes entity)
kinds_told bytes how seed entity =
    either_told turn_told (is_of_kind bytes (codes "POLYLINE") entity) _ _ _ _ (polyline_told bytes entity) (either_told
    turn_told (are_read_alone bytes entity) _ _ _ _ (alone_told bytes how seed entity) (other_told how entity))

free_told : (bytes : List ℕ) (how : How) (seed : Option Pair) (entity : Entity)
    → told turn_told (step_free bytes how seed entity) ≡ free_turn how (is_seeded seed) (entity_told bytes entity)
free_told bytes how seed entity =
    let told_entity = entity_told bytes entity in
    either_told turn_told (is_end_of_section bytes entity.head) _ _ _ _ refl (chain _ turn_told _ _
    (field_at (pos 67) entity) _ (field_told bytes _ entity) (λ paper. rw (← there_as_told bytes 1 paper) (either_told
    turn_told (there_as bytes 1 paper) _ _ _ _ (ap Some (stays_told bytes entity)) (kinds_told bytes how seed entity))))

kept_told : (bytes : List ℕ) (how : How) (seed : Option Pair) (entity : Entity)
    → told turn_told (step_staying bytes how seed entity) ≡ kept_turn how (is_seeded seed) (entity_told bytes entity)
kept_told bytes how seed entity =
    either_told turn_told (is_of_kind bytes (codes "VERTEX") entity) _ _ _ _ refl (either_told turn_told
    (is_of_kind bytes (codes "SEQEND") entity) _ _ _ _ refl (free_told bytes how seed entity))

-- ---- what is read of a drawing's paths and points is what its groups say
spots_behind : (vertices : List VertexFields) (vertex : VertexFields)
    → spots_of (vertices ++ vertex ∷ []) ≡ spots_of vertices ++ spot_point vertex ∷ []
spots_behind [] vertex = refl
spots_behind (first ∷ vertices) vertex = ap (λ more. spot_point first ∷ more) (spots_behind vertices vertex)

heavy_told : (kind : PathKind) (vertices : List VertexFields)
    → outline (heavy_shape kind vertices) ≡ light_outline kind (spots_of vertices)
heavy_told kind vertices = ap (λ (k : Option PathKind). flat_outline k (spots_of vertices))
    (kind_with_told kind vertices)

open_told : (bytes : List ℕ) (how : How) (seed : Option Pair) (kind : PathKind) (vertices : List VertexFields)
    (entity : Entity) → told turn_told (step_reading bytes how seed kind vertices entity)
    ≡ open_turn how (is_seeded seed) kind (spots_of vertices) (entity_told bytes entity)
open_told bytes how seed kind vertices entity =
    either_told turn_told (is_of_kind bytes (codes "VERTEX") entity) _ _ _ _ (chain spot_point turn_told _ _
    (entity_vertex bytes how.exact seed entity) _ (own_told bytes _ seed entity) (λ vertex. ap (λ (points : List Pt).
    Some (record { shapes = []; next = open_line kind points })) (spots_behind vertices vertex))) (either_told turn_told
    (is_of_kind bytes (codes "SEQEND") entity) _ _ _ None (ap (λ (o : Outline). Some (turn_of (o ∷ [])))
    (heavy_told kind vertices)) refl)

pub step_told : (bytes : List ℕ) (how : How) (seed : Option Pair) (place : WalkPlace) (entity : Entity)
    → told turn_told (step bytes how seed place entity)
    ≡ turn how (is_seeded seed) (spot_told place) (entity_told bytes entity)
step_told bytes how seed free entity = free_told bytes how seed entity
step_told bytes how seed staying entity = kept_told bytes how seed entity
step_told bytes how seed (reading kind vertices) entity = open_told bytes how seed kind vertices entity

end_told : (place : WalkPlace) → told outlines (walk_end place) ≡ last_turn (spot_told place)
end_told free = refl
end_told staying = refl
end_told (reading kind vertices) = refl

walk_told : (bytes : List ℕ) (how : How) (seed : Option Pair) (place : WalkPlace) (entities : List Entity)
    → told outlines (walk_of bytes how seed place entities)
    ≡ walk how (is_seeded seed) (spot_told place) (map (entity_told bytes) entities)
walk_told bytes how seed place [] = end_told place
walk_told bytes how seed place (entity ∷ entities) =
    let rest = map (entity_told bytes) entities in
    chain turn_told outlines (λ (here : Step). and_then (λ (more : List Shape). Ok (here.shapes ++ more))
    (walk_of bytes how seed here.next entities))
    (λ (here : Turn). next (in_front here.shapes) (walk how (is_seeded seed) here.next rest))
    (step bytes how seed place entity) (turn how (is_seeded seed) (spot_told place) (entity_told bytes entity))
    (step_told bytes how seed place entity)
    (λ here. chain outlines outlines (λ (more : List Shape). Ok (here.shapes ++ more)) (in_front (outlines here.shapes))
    (walk_of bytes how seed here.next entities)
    (walk how (is_seeded seed) (spot_told here.next) rest) (walk_told bytes how seed here.next entities)
    (λ more. ap Some (map-append outline here.shapes more)))

pub drawing_told : (bytes : List ℕ) (how : How) (pairs : List Pair)
    → told outlines (walk_of bytes how (seed_from bytes Outside pairs) free (entities_from bytes Outside pairs))
    ≡ outlines_of how (map (group_in bytes) pairs)
drawing_told bytes how pairs = rw (← seeded_told bytes Outside pairs, ← entities_are bytes Outside pairs)
    (walk_told bytes how (seed_from bytes Outside pairs) free (entities_from bytes Outside pairs))
