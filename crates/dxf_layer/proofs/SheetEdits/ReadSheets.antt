-- Sheets that are read have no more points than bytes, and heights within reach.
use Rattle.std.proofs.Common.{◌≡◌, ℕ, suc, ◌+◌, ◌≤◌, ℤ, pos, List, [], ◌∷◌, ◌++◌, length, Bool, true, false, cond, sym}
use Rattle.std.proofs.Common.{subst, arith, Result, Ok, Err, Option, None, Some, length-append, refl}
use Rattle.std.specs.Prelude.{codes}
use Rattle.std.proofs.lemmas.Int.{ints}
use Rattle.std.proofs.lemmas.List.{length-map}
use Rattle.std.proofs.lemmas.List.Elements.{All-from_recursion}
use Rattle.sheet_base.specs.declared.flags.How.{How}
use Rattle.sheet_base.specs.declared.paths.PathKind.{PathKind}
use Rattle.sheet_base.specs.declared.faults.LayerFault.{LayerFault}
use Rattle.sheet_base.specs.declared.faults.LayerFault.TheVariants as faults
use Rattle.sheet_base.specs.Sheets.{Contents}
use Rattle.sheet_base.specs.Faults.{and_then}
use Rattle.sheet_base.specs.ReadSheets.{IsSheetOf}
use Rattle.dxf_pairs.specs.declared.pairs.Pair.{Pair}
use Rattle.dxf_pairs.specs.declared.faults.PairFault.{PairFault}
use Rattle.dxf_pairs.specs.Pairs.{drawing}
use Rattle.dxf_pairs.specs.Laws.{PairsTile, Tile}
use Rattle.dxf_entities.specs.declared.drawing.PointFields.{PointFields}
use Rattle.dxf_entities.specs.declared.drawing.VertexFields.{VertexFields}
use Rattle.dxf_entities.specs.Entities.{Entity, entity_end, is_of_kind}
use Rattle.dxf_entities.specs.Fields.{entity_fields, zero_at}
use Rattle.dxf_entities.specs.Handles.{handle}
use Rattle.dxf_entities.specs.Shapes.{Shape, point_of, with_shape, with_shapes}
use Rattle.dxf_entities.specs.Points.{spot_at, dot_of, dots_of, point_shapes, insert_shapes, second_spot, text_shapes}
use Rattle.dxf_entities.specs.Points.{line_of, line_ends, line_shapes}
use Rattle.dxf_entities.specs.Polylines.{kind_of, count_of, begins_vertex, is_number_pair, vertex_of, vertices_in}
use Rattle.dxf_entities.specs.Polylines.{light_shape, light_shapes, entity_vertex}
use Rattle.dxf_entities.specs.Kinds.{shapes_of}
use Rattle.dxf_entities.specs.SectionPlaces.{entities_of}
use Rattle.dxf_entities.specs.Seeds.{seed_of}
use Rattle.dxf_layer.specs.InsideWalks.{WalkPlace, free, staying, reading, Step, step_free, step, walk_of}
use Rattle.dxf_layer.specs.Drawings.{contents_of_seed, from_pairs, drawing_sheet}
use Rattle.dxf_layer.specs.InsideSheets.{walked_sheet_of}
use Rattle.dxf_entities.proofs.Members.{went, Follow, Lies, lies, one_before, IsField, spot_fields}
use Rattle.dxf_entities.proofs.EntityEdits.{line_parts, either, IsLaid}
use Rattle.dxf_entities.proofs.Sections.{AreSpread}
use Rattle.dxf_layer.proofs.SheetEdits.SheetOrder.{pairs_follow, entities_spread, read_made}
use Rattle.dxf_layer.proofs.EntityWalks.WalkedSheets.{sheet_walked}
use Rattle.dxf_layer.proofs.EntityWalks.StepGroups.{FreeStep, at_end, on_paper, opens, by_itself, left_out, free_step, KeptStep}
use Rattle.dxf_layer.proofs.EntityWalks.StepGroups.{kept_vertex, kept_end, as_free, kept_step, ReadingStep, one_vertex, the_end}
use Rattle.dxf_layer.proofs.EntityWalks.StepGroups.{reading_step, end_is, walked_on}

-- ---- what is read of a drawing has no more points than its entities have bytes
-- the points of shapes
abbrev pub points_count : List Shape → ℕ
points_count [] = 0
points_count (shape ∷ shapes) = length shape.points + points_count shapes

count_both : (shapes more : List Shape) → points_count (shapes ++ more) ≡ points_count shapes + points_count more
count_both [] more = omega arith
count_both (shape ∷ shapes) more = let rest = count_both shapes more in omega (arith, rest)

shapes_points : (before : Contents) (shapes : List Shape)
    → length (with_shapes before shapes).points ≡ length before.points + points_count shapes
shapes_points before [] = omega arith
shapes_points before (shape ∷ shapes) = grind (arith, length-append, (shapes_points (with_shape before shape) shapes))

-- ---- fields
-- fields of two codes take two bytes
two_fields : (from : ℕ) (a b : Pair) (fields : List Pair) (past : ℕ) (x y : ℤ) → Follow from fields past
    → IsField x a fields → IsField y b fields → (x ≡ y → ⊥) → from + 2 ≤ past
two_fields from a b fields past x y follow a_is b_is other = grind (arith, lies, one_before, Lies)

-- a point at 10 and 20 takes two bytes of an entity
spot_long : (bytes : List ℕ) (exact : Bool) (entity : Entity) (spot : PointFields) → IsLaid entity
    → spot_at bytes exact (pos 10) (pos 20) entity ≡ Ok spot → entity.head.start + 2 ≤ entity_end entity
spot_long bytes exact entity spot laid is =
    let has = spot_fields bytes exact _ _ entity spot is in
    let long = two_fields _ _ _ _ _ _ _ laid.fields has.east has.north (λ e. absurd (omega (arith, ints))) in
    omega (arith, long, laid.forth)

follow_long : (from : ℕ) (fields : List Pair) (past : ℕ) → Follow from fields past → from + length fields ≤ past
follow_long from [] past follow = omega (arith, follow)
follow_long from (pair ∷ fields) past follow = grind (arith, (follow_long pair.end fields past follow.4))

-- vertices in fields are no more than the fields
vertices_few : (bytes : List ℕ) (exact : Bool) (fields : List Pair) (vertices : List VertexFields)
    → vertices_in bytes exact fields ≡ Ok vertices → length vertices ≤ length fields
vertices_few bytes exact [] vertices is = let none : [] ≡ vertices =
    cc in subst (λ (vs : List VertexFields). length vs ≤ 0) none (omega arith)
vertices_few bytes exact (pair ∷ []) vertices is = grind arith
vertices_few bytes exact (pair ∷ next ∷ pairs) vertices is = by_tests (begins_vertex pair next) (is_number_pair pair) is
    (λ more read. vertices_few bytes exact pairs more read)
    (λ read. vertices_few bytes exact (next ∷ pairs) vertices read) where
      by_tests : (begins number : Bool) → cond begins
          (and_then (λ (vertex : VertexFields). and_then (λ (more : List VertexFields). Ok (vertex ∷ more))
          (vertices_in bytes exact pairs)) (vertex_of bytes exact pair next pairs))
          (cond number (Err (faults.Count pair.line)) (vertices_in bytes exact (next ∷ pairs))) ≡ Ok vertices
          → ((more : List VertexFields) → vertices_in bytes exact pairs ≡ Ok more → length more ≤ length pairs)
          → (vertices_in bytes exact (next ∷ pairs) ≡ Ok vertices → length vertices ≤ suc (length pairs))
          → length vertices ≤ suc (suc (length pairs))
      by_tests true number made here later =
          let first = went (λ (vertex : VertexFields). and_then (λ (more : List VertexFields). Ok (vertex ∷ more))
          (vertices_in bytes exact pairs)) (vertex_of bytes exact pair next pairs) vertices made in
          let rest = went (λ (more : List VertexFields). Ok (first.value ∷ more)) (vertices_in bytes exact pairs) vertices
          first.gives in
          let same : first.value ∷ rest.value ≡ vertices = cc in
          let few = here rest.value rest.is in
          subst (λ (vs : List VertexFields). length vs ≤ suc (suc (length pairs))) same (omega (arith, few))
      by_tests false true made here later = absurd (cc)
      by_tests false false made here later = let few = later made in omega (arith, few)

-- ---- entities
-- what is read of an entity has no more points than the entity has bytes
abbrev pub IsShort : Entity → Result (List Shape) LayerFault → Type 0
IsShort entity read = (shapes : List Shape) → read ≡ Ok shapes
    → entity.head.start + points_count shapes ≤ entity_end entity

point_short : (bytes : List ℕ) (exact : Bool) (entity : Entity) → IsLaid entity
    → IsShort entity (point_shapes bytes exact entity)
point_short bytes exact entity laid shapes is =
    let found = went _ (spot_at bytes exact (pos 10) (pos 20) entity) shapes is in
    let made : dot_of found.value ∷ [] ≡ shapes = cc in
    let long = spot_long bytes exact entity _ laid found.is in
    subst (λ (ss : List Shape). entity.head.start + points_count ss ≤ entity_end entity) made (omega (arith, long))

insert_short : (bytes : List ℕ) (exact : Bool) (entity : Entity) → IsLaid entity
    → IsShort entity (insert_shapes bytes exact entity)
insert_short bytes exact entity laid shapes is =
    let found = went _ (zero_at bytes faults.Attribs (pos 66) entity) shapes is in
    point_short bytes exact entity laid shapes found.gives

dots_few : (second : Option PointFields) → points_count (dots_of second) ≤ 1
dots_few None = omega arith
dots_few (Some spot) = omega arith

text_short : (bytes : List ℕ) (exact : Bool) (entity : Entity) → IsLaid entity
    → IsShort entity (text_shapes bytes exact entity)
text_short bytes exact entity laid shapes is =
    let first = went (λ (spot : PointFields). and_then (λ (second : Option PointFields). Ok (dot_of spot ∷ dots_of second))
    (second_spot bytes exact entity)) (spot_at bytes exact (pos 10) (pos 20) entity) shapes is in
    let second = went (λ (second : Option PointFields). Ok (dot_of first.value ∷ dots_of second))
    (second_spot bytes exact entity) shapes first.gives in
    let made : dot_of first.value ∷ dots_of second.value ≡ shapes = cc in
    let long = spot_long bytes exact entity first.value laid first.is in
    let few = dots_few second.value in grind arith

line_short : (bytes : List ℕ) (exact : Bool) (seed : Option Pair) (entity : Entity) → IsLaid entity
    → IsShort entity (line_shapes bytes exact seed entity)
line_short bytes exact seed entity laid shapes is =
    let found = went _ (line_ends bytes exact seed entity) shapes is in
    let ends = found.value in
    let made : line_of entity ends.begin ends.end ends.rise ∷ [] ≡ shapes = cc in
    let parts = line_parts bytes exact seed entity ends found.is in
    let long = spot_long bytes exact entity _ laid parts.begin_is in
    subst (λ (ss : List Shape). entity.head.start + points_count ss ≤ entity_end entity) made (omega (arith, long))

light_short : (bytes : List ℕ) (exact : Bool) (entity : Entity) → IsLaid entity
    → IsShort entity (light_shapes bytes exact entity)
light_short bytes exact entity laid shapes is =
    let kind = went (λ (kind : PathKind). and_then
    (λ (vs : List VertexFields). and_then (λ (count : Pair). Ok (light_shape kind vs count ∷ []))
    (count_of bytes (length vs) entity)) (vertices_in bytes exact (entity_fields entity))) (kind_of bytes entity) shapes
    is in
    let vertices = went (λ (vs : List VertexFields). and_then (λ (count : Pair). Ok (light_shape kind.value vs count ∷ []))
    (count_of bytes (length vs) entity)) (vertices_in bytes exact (entity_fields entity)) shapes kind.gives in
    let count = went (λ (count : Pair). Ok (light_shape kind.value vertices.value count ∷ []))
    (count_of bytes (length vertices.value) entity) shapes vertices.gives in
    let made : light_shape kind.value vertices.value count.value ∷ [] ≡ shapes = cc in
    let few = vertices_few bytes exact (entity_fields entity) vertices.value vertices.is in
    let long = follow_long entity.head.end (entity_fields entity) (entity_end entity) laid.fields in
    let size = length-map vertices.value (λ (vertex : VertexFields). point_of vertex.spot) in grind arith

shapes_short : (bytes : List ℕ) (how : How) (seed : Option Pair) (entity : Entity) → IsLaid entity
    → IsShort entity (shapes_of bytes how seed entity)
shapes_short bytes how seed entity laid =
    let short : Result (List Shape) LayerFault → Type 0 = IsShort entity in
    either short (is_of_kind bytes (codes "POINT") entity) (point_shapes bytes how.exact entity) _
    (point_short bytes how.exact entity laid)
    (either short (is_of_kind bytes (codes "LINE") entity) (line_shapes bytes how.exact seed entity) _
    (line_short bytes how.exact seed entity laid)
    (either short (is_of_kind bytes (codes "LWPOLYLINE") entity) (light_shapes bytes how.exact entity) _
    (light_short bytes how.exact entity laid)
    (either short (is_of_kind bytes (codes "TEXT") entity) (text_shapes bytes how.exact entity)
    (insert_shapes bytes how.exact entity) (text_short bytes how.exact entity laid)
    (insert_short bytes how.exact entity laid))))

-- ---- steps
-- the vertices so far of a polyline that is read
abbrev pub pending : WalkPlace → ℕ
pending free = 0
pending staying = 0
pending (reading kind vertices) = length vertices

-- a step adds no more points, read or pending, than its entity has bytes
abbrev pub IsFew : Entity → ℕ → Step → Type 0
IsFew entity before here =
    entity.head.start + (points_count here.shapes + pending here.next) ≤ entity_end entity + before

free_few : (bytes : List ℕ) (how : How) (seed : Option Pair) (entity : Entity) (here : Step) → IsLaid entity
    → step_free bytes how seed entity ≡ Ok here → IsFew entity 0 here
free_few bytes how seed entity here laid is = by_step (free_step bytes how seed entity here is) where
  stays_few : (polyline : Bool) → IsFew entity 0 (record { shapes = []; next = cond polyline staying free })
  stays_few true = omega (arith, laid.order)
  stays_few false = omega (arith, laid.order)

  by_step : FreeStep bytes how seed entity here → IsFew entity 0 here
  by_step (at_end last) = subst (IsFew entity 0) (sym last.here_is) (omega (arith, laid.order))
  by_step (on_paper on) = subst (IsFew entity 0) (sym on.here_is) (stays_few (is_of_kind bytes (codes "POLYLINE") entity))
  by_step (opens polyline) = subst (IsFew entity 0) (sym polyline.here_is) (omega (arith, laid.order))
  by_step (by_itself lone) =
      let short = shapes_short bytes how seed entity laid lone.shapes lone.read.shapes_are in
      subst (IsFew entity 0) (sym lone.here_is) (omega (arith, short))
  by_step (left_out left) = subst (IsFew entity 0) (sym left.here_is) (omega (arith, laid.order))

vertex_long : (bytes : List ℕ) (exact : Bool) (seed : Option Pair) (entity : Entity) (vertex : VertexFields) → IsLaid entity
    → entity_vertex bytes exact seed entity ≡ Ok vertex → entity.head.start + 2 ≤ entity_end entity
vertex_long bytes exact seed entity vertex laid is =
    let made : PointFields → VertexFields = λ spot. record { spot = spot; start = entity.head.start; past = entity_end entity } in
    let own = went _ (handle seed entity) vertex is in
    let spot = went _ (spot_at bytes exact (pos 10) (pos 20) entity) vertex own.gives in
    spot_long bytes exact entity _ laid spot.is

all_few : (bytes : List ℕ) (how : How) (seed : Option Pair) (spot : WalkPlace) (entity : Entity) (here : Step)
    → IsLaid entity → step bytes how seed spot entity ≡ Ok here → IsFew entity (pending spot) here
all_few bytes how seed free entity here laid is = free_few bytes how seed entity here laid is
all_few bytes how seed staying entity here laid is =
    grind (arith, kept_step, KeptStep, kept_vertex, kept_end, as_free, free_few)
all_few bytes how seed (reading kind vertices) entity here laid is =
    by_step (reading_step bytes how seed kind vertices entity here is) where
      by_step : ReadingStep bytes how seed kind vertices entity here → IsFew entity (length vertices) here
      by_step (one_vertex vertex) =
          let long = vertex_long bytes _ seed entity _ laid vertex.vertex_is in
          let more = length-append vertices (vertex.vertex ∷ []) in
          subst (IsFew entity (length vertices)) (sym vertex.here_is) (omega (arith, long, more))
      by_step (the_end end) = grind (arith, length-map)

-- all entities between two places have no more points, with those that are pending, than there are bytes
walk_few : (bytes : List ℕ) (how : How) (seed : Option Pair) (entities : List Entity) (spot : WalkPlace)
    (from past : ℕ) (shapes : List Shape) → AreSpread from entities past
    → walk_of bytes how seed spot entities ≡ Ok shapes → from + points_count shapes ≤ past + pending spot
walk_few bytes how seed [] spot from past shapes spread is = grind (arith, end_is)
walk_few bytes how seed (entity ∷ entities) spot from past shapes spread is =
    let w = walked_on bytes how seed spot entity entities shapes is in
    let here = all_few bytes how seed spot entity w.here spread.1 w.step_is in
    let later = walk_few bytes how seed entities w.here.next (entity_end entity) past w.more spread.2 w.more_is in
    let both = count_both w.here.shapes w.more in grind arith

-- ---- what is read of a drawing is a sheet: it has no more points than the drawing has bytes, a height or none for each
-- point, and its edits are in order.
by_pairs : (bytes : List ℕ) (how : How) (pairs : List Pair) (sheet : Contents) → Tile bytes pairs
    → drawing bytes ≡ Ok pairs → drawing_sheet how bytes ≡ Ok sheet → IsSheetOf bytes sheet
by_pairs bytes how pairs sheet tile pairs_are is =
    by_read (walk_of bytes how (seed_of bytes pairs) free (entities_of bytes pairs)) refl
    (sheet_walked bytes how pairs sheet tile pairs_are is) where
      by_read : (read : Result (List Shape) LayerFault)
          → walk_of bytes how (seed_of bytes pairs) free (entities_of bytes pairs) ≡ read
          → and_then (λ shapes. Ok (walked_sheet_of (seed_of bytes pairs) shapes)) read ≡ Ok sheet
          → IsSheetOf bytes sheet
      by_read (Ok shapes) walk made =
          let seed = seed_of bytes pairs in
          let whole = read_made bytes how pairs (with_shapes (contents_of_seed seed) shapes) tile (rw walk refl) in
          let few = walk_few bytes how seed (entities_of bytes pairs) free 0 (length bytes) shapes
          (entities_spread bytes pairs (length bytes) (pairs_follow bytes pairs tile)) walk in
          let count = shapes_points (contents_of_seed seed) shapes in
          let same : sheet ≡ walked_sheet_of seed shapes = cc in grind (arith, All-from_recursion)
      by_read (Err fault) walk made = absurd (cc)

pub read_is_sheet : PairsTile → (how : How) (bytes : List ℕ) (sheet : Contents)
    → drawing_sheet how bytes ≡ Ok sheet → IsSheetOf bytes sheet
read_is_sheet tile how bytes sheet is = by_result (drawing bytes) refl where
  by_result : (result : Result (List Pair) PairFault) → drawing bytes ≡ result → IsSheetOf bytes sheet
  by_result (Ok pairs) pairs_are = by_pairs bytes how pairs sheet (tile bytes pairs pairs_are) pairs_are is
  by_result (Err fault) pairs_are =
      let none = subst (λ read. from_pairs bytes how read ≡ Ok sheet) pairs_are is in absurd (cc)
