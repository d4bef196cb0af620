-- The edits of a walk, entity by entity, and where they lie.
use Rattle.std.proofs.Common.{◌≡◌, ℕ, ◌+◌, Bool, true, false, cond, refl, ap, sym, ◌∙◌, subst, List, [], ◌∷◌, ◌++◌}
use Rattle.std.proofs.Common.{length, Option, Result, Ok, Err, codes, ◌<◌, ◌≤◌, filter, arith, inl, inr}
use Rattle.std.proofs.lemmas.List.{append-nil, append_assoc}
use Rattle.std.proofs.lemmas.List.Elements.{filter-append}
use Rattle.sheet_base.specs.declared.edits.Edit.{Edit}
use Rattle.sheet_base.specs.declared.edits.What.TheVariants as edits
use Rattle.sheet_base.specs.declared.flags.How.{How}
use Rattle.sheet_base.specs.declared.paths.PathKind.{PathKind}
use Rattle.sheet_base.specs.declared.faults.LayerFault.{LayerFault}
use Rattle.sheet_base.specs.declared.faults.LayerFault.TheVariants as faults
use Rattle.dxf_pairs.specs.declared.pairs.Pair.{Pair}
use Rattle.dxf_entities.specs.declared.drawing.VertexFields.{VertexFields}
use Rattle.dxf_entities.specs.Entities.{Entity, is_of_kind, entity_end}
use Rattle.dxf_entities.specs.Shapes.{Shape}
use Rattle.dxf_entities.specs.Polylines.{copy_edits}
use Rattle.dxf_copies.specs.PairGroups.{begins_at, covers, is_of_value}
use Rattle.dxf_copies.specs.Rendering.{Reading}
use Rattle.dxf_layer.specs.InsideWalks.{WalkPlace, free, staying, reading, Step, step_free, step_staying, step, walk_of}
use Rattle.dxf_entities.proofs.WholeShapes.{edits_with, paths_past, points_past, edits_both, AreWithin, StandApart}
use Rattle.dxf_entities.proofs.WholeShapes.{wider, no_edits, both_apart}
use Rattle.dxf_entities.proofs.EntityEdits.{IsLaid, whole_edit}
use Rattle.dxf_entities.proofs.Sections.{AreSpread}
use Rattle.dxf_copies.proofs.WholeTurns.{whole_of}
use Rattle.dxf_copies.proofs.ValueTurns.{stand, texts_in, itself_in}
use Rattle.dxf_layer.proofs.EntityWalks.StepGroups.{FreeStep, at_end, on_paper, opens, by_itself, left_out, free_step, KeptStep}
use Rattle.dxf_layer.proofs.EntityWalks.StepGroups.{kept_vertex, kept_end, as_free, kept_step, ReadingStep, one_vertex, the_end}
use Rattle.dxf_layer.proofs.EntityWalks.StepGroups.{reading_step, end_is, walked_on}
use Rattle.dxf_layer.proofs.EntityWalks.WalkSteps.{copies_behind}
use Rattle.dxf_layer.proofs.SheetEdits.SheetOrder.{own_vertex, IsStepGood, free_good, open_order}
use Rattle.dxf_layer.proofs.WrittenDrawings.EntityCases.{texts_at}

-- ---- the edits of a walk, entity by entity
-- the edit of a vertex's entity
abbrev pub reading_edits : Entity → ℕ → WalkPlace → List Edit
reading_edits entity n (reading kind vertices) = whole_of entity (edits.Vertex n) ∷ []
reading_edits entity n free = []
reading_edits entity n staying = []

-- the edits that are in an entity
abbrev pub own_edits : ℕ → ℕ → WalkPlace → Entity → Step → List Edit
own_edits path first free entity here = edits_with path first here.shapes
own_edits path first staying entity here = edits_with path first here.shapes
own_edits path first (reading kind vertices) entity here = reading_edits entity (first + length vertices) here.next

abbrev pub edits_by : (Step → List Edit) → Result Step LayerFault → List Edit
edits_by f (Ok here) = f here
edits_by f (Err fault) = []

-- the edits of the entities from here on
abbrev pub trail : List ℕ → How → Option Pair → ℕ → ℕ → WalkPlace → List Entity → List Edit
trail bytes how seed path first place [] = []
trail bytes how seed path first place (entity ∷ entities) =
    edits_by (λ (here : Step). own_edits path first place entity here
    ++ trail bytes how seed (paths_past path first here.shapes) (points_past first here.shapes) here.next entities)
    (step bytes how seed place entity)

-- the edits of the vertices so far
abbrev pub pending : ℕ → WalkPlace → List Edit
pending first free = []
pending first staying = []
pending first (reading kind vertices) = copy_edits first vertices

pub trail_on : (bytes : List ℕ) (how : How) (seed : Option Pair) (path first : ℕ) (place : WalkPlace) (entity : Entity)
    (entities : List Entity) (here : Step) → step bytes how seed place entity ≡ Ok here
    → trail bytes how seed path first place (entity ∷ entities) ≡ own_edits path first place entity here
    ++ trail bytes how seed (paths_past path first here.shapes) (points_past first here.shapes) here.next entities
trail_on bytes how seed path first place entity entities here is = grind (arith, paths_past, points_past)

-- the edits of what is read of entities are those of the vertices so far and those of the trail
pub trail_edits : (bytes : List ℕ) (how : How) (seed : Option Pair) (path first : ℕ) (place : WalkPlace)
    (entities : List Entity) (shapes : List Shape) → walk_of bytes how seed place entities ≡ Ok shapes
    → edits_with path first shapes ≡ pending first place ++ trail bytes how seed path first place entities
trail_edits bytes how seed path first free [] shapes is = ap (edits_with path first) (end_is free shapes is)
trail_edits bytes how seed path first staying [] shapes is = ap (edits_with path first) (end_is staying shapes is)
trail_edits bytes how seed path first (reading kind vertices) [] shapes is = absurd (cc)
trail_edits bytes how seed path first place (entity ∷ entities) shapes is =
    let w = walked_on bytes how seed place entity entities shapes is in
    let rest = trail_edits bytes how seed (paths_past path first w.here.shapes) (points_past first w.here.shapes)
    w.here.next entities w.more w.more_is in ap (edits_with path first) w.shapes_are
    ∙ (edits_both path first w.here.shapes w.more
    ∙ (ap (λ (e : List Edit). edits_with path first w.here.shapes ++ e) rest
    ∙ (by_place place w.here w.step_is (trail bytes how seed (paths_past path first w.here.shapes)
    (points_past first w.here.shapes) w.here.next entities) ∙ ap (λ (e : List Edit). pending first place ++ e)
    (sym (trail_on bytes how seed path first place entity entities w.here w.step_is)))))
  where
    stays_pending : (polyline : Bool) (n : ℕ) → pending n (cond polyline staying free) ≡ []
    stays_pending true n = refl
    stays_pending false n = refl

    free_pending : (here : Step) → step_free bytes how seed entity ≡ Ok here → (n : ℕ) → pending n here.next ≡ []
    free_pending here is n = by_step (free_step bytes how seed entity here is) where
      by_step : FreeStep bytes how seed entity here → pending n here.next ≡ []
      by_step (at_end last) = ap (λ (h : Step). pending n h.next) last.here_is
      by_step (on_paper on) = ap (λ (h : Step). pending n h.next) on.here_is
          ∙ stays_pending (is_of_kind bytes (codes "POLYLINE") entity) n
      by_step (opens begun) = ap (λ (h : Step). pending n h.next) begun.here_is
      by_step (by_itself lone) = ap (λ (h : Step). pending n h.next) lone.here_is
      by_step (left_out left) = ap (λ (h : Step). pending n h.next) left.here_is

    kept_pending : (here : Step) → step_staying bytes how seed entity ≡ Ok here → (n : ℕ) → pending n here.next ≡ []
    kept_pending here is n = grind (arith, kept_step, KeptStep, kept_vertex, kept_end, as_free, free_pending)

    after_reading : (kind : PathKind) (vertices : List VertexFields) (here : Step)
        → ReadingStep bytes how seed kind vertices entity here → (more : List Edit)
        → edits_with path first here.shapes ++ (pending (points_past first here.shapes) here.next ++ more)
        ≡ copy_edits first vertices ++ (reading_edits entity (first + length vertices) here.next ++ more)
    after_reading kind vertices here (one_vertex vertex) more =
        let at = own_vertex bytes how.exact seed entity vertex.vertex vertex.vertex_is in
        let edit : copy_edits first (vertices ++ vertex.vertex ∷ []) ≡ copy_edits first vertices
        ++ whole_of entity (edits.Vertex (first + length vertices)) ∷ [] = copies_behind first vertices vertex.vertex
        ∙ (ap (λ (n : ℕ). copy_edits first vertices
        ++ record { start = n; end = vertex.vertex.past; what = edits.Vertex (first + length vertices) } ∷ []) at.0
        ∙ ap (λ (n : ℕ). copy_edits first vertices
        ++ record { start = entity.head.start; end = n; what = edits.Vertex (first + length vertices) } ∷ []) at.1) in
        grind (arith, edits_with, points_past, append_assoc, whole_of)
    after_reading kind vertices here (the_end end) more = grind (arith, edits_with, points_past, append-nil)

    by_place : (place : WalkPlace) (here : Step) → step bytes how seed place entity ≡ Ok here → (more : List Edit)
        → edits_with path first here.shapes ++ (pending (points_past first here.shapes) here.next ++ more)
        ≡ pending first place ++ (own_edits path first place entity here ++ more)
    by_place free here is more = ap (λ (e : List Edit). edits_with path first here.shapes ++ (e ++ more))
        (free_pending here is (points_past first here.shapes))
    by_place staying here is more = ap (λ (e : List Edit). edits_with path first here.shapes ++ (e ++ more))
        (kept_pending here is (points_past first here.shapes))
    by_place (reading kind vertices) here is more =
        after_reading kind vertices here (reading_step bytes how seed kind vertices entity here is) more

-- ---- the edits of an entity, and of the entities after it, are in them; what stands for the pairs after an entity
free_apart : (bytes : List ℕ) (how : How) (seed : Option Pair) (path first : ℕ) (entity : Entity) (here : Step)
    → IsLaid entity → step_free bytes how seed entity ≡ Ok here
    → StandApart entity.head.start (edits_with path first here.shapes) (entity_end entity)
free_apart bytes how seed path first entity here laid is =
    let good : IsStepGood 0 0 entity.head.start entity here =
    free_good 0 0 bytes how seed entity here laid (inl (inr (omega arith))) is in
    wider _ _ _ _ _ (good.good.apart path first) (omega arith) (open_order 0 0 _ _ _ good.opened)

-- the edits of an entity are in it
pub own_apart : (bytes : List ℕ) (how : How) (seed : Option Pair) (path first : ℕ) (place : WalkPlace) (entity : Entity)
    (here : Step) → IsLaid entity → step bytes how seed place entity ≡ Ok here
    → StandApart entity.head.start (own_edits path first place entity here) (entity_end entity)
own_apart bytes how seed path first free entity here laid is = free_apart bytes how seed path first entity here laid is
own_apart bytes how seed path first staying entity here laid is =
    by_step (kept_step bytes how seed entity here is) where
      by_step : KeptStep bytes how seed entity here
          → StandApart entity.head.start (edits_with path first here.shapes) (entity_end entity)
      by_step (kept_vertex vertex) = subst (λ (h : Step). StandApart entity.head.start (edits_with path first h.shapes)
          (entity_end entity)) (sym vertex.here_is) (no_edits _ _)
      by_step (kept_end end) = subst (λ (h : Step). StandApart entity.head.start (edits_with path first h.shapes)
          (entity_end entity)) (sym end.here_is) (no_edits _ _)
      by_step (as_free other) = free_apart bytes how seed path first entity here laid other.other
own_apart bytes how seed path first (reading kind vertices) entity here laid is =
    grind (arith, reading_step, ReadingStep, StandApart, one_vertex, whole_edit, the_end, no_edits)

spread_order : (from past : ℕ) (entities : List Entity) → AreSpread from entities past → from ≤ past
spread_order from past [] spread = spread
spread_order from past (entity ∷ entities) spread =
    omega (arith, spread.0, spread.1.order, spread_order (entity_end entity) past entities spread.2)

-- and those of all from here on
pub trail_apart : (bytes : List ℕ) (how : How) (seed : Option Pair) (path first : ℕ) (place : WalkPlace)
    (entities : List Entity) (shapes : List Shape) (from past : ℕ) → AreSpread from entities past
    → walk_of bytes how seed place entities ≡ Ok shapes
    → StandApart from (trail bytes how seed path first place entities) past
trail_apart bytes how seed path first place [] shapes from past spread is = no_edits from past
trail_apart bytes how seed path first place (entity ∷ entities) shapes from past spread is =
    let w = walked_on bytes how seed place entity entities shapes is in
    let own = own_apart bytes how seed path first place entity w.here spread.1 w.step_is in
    let rest = trail_apart bytes how seed (paths_past path first w.here.shapes) (points_past first w.here.shapes)
    w.here.next entities w.more (entity_end entity) past spread.2 w.more_is in
    let order = spread_order (entity_end entity) past entities spread.2 in
    subst (λ (e : List Edit). StandApart from e past)
    (sym (trail_on bytes how seed path first place entity entities w.here w.step_is))
    (wider entity.head.start past from past (own_edits path first place entity w.here
    ++ trail bytes how seed (paths_past path first w.here.shapes) (points_past first w.here.shapes) w.here.next
    entities)
    (both_apart entity.head.start (entity_end entity) past (own_edits path first place entity w.here)
    (trail bytes how seed (paths_past path first w.here.shapes) (points_past first w.here.shapes) w.here.next
    entities) spread.1.order order own rest)
    spread.0 (omega arith))

-- edits that end by a pair neither cover it nor replace its value
no_cover : (pair : Pair) (low high : ℕ) (own : List Edit) → AreWithin low own high → high ≤ pair.start
    → filter (covers pair) own ≡ []
no_cover pair low high [] within before = refl
no_cover pair low high (edit ∷ own) within before = grind (arith, (no_cover pair low high own within.3 before))

no_value : (pair : Pair) (low high : ℕ) (own : List Edit) → AreWithin low own high → high ≤ pair.start
    → pair.start < pair.value → filter (is_of_value pair) own ≡ []
no_value pair low high [] within before code = refl
no_value pair low high (edit ∷ own) within before code =
    grind (arith, (no_value pair low high own within.3 before code))

texts_both : (read : Reading) (first second : List Edit)
    → texts_in read (first ++ second) ≡ texts_in read first ++ texts_in read second
texts_both read [] second = refl
texts_both read (edit ∷ first) second = grind (arith, append_assoc, texts_in, (texts_both read first second))

-- edits that a test takes none of may be among others
none_taken : (p : Edit → Bool) (extra own rest : List Edit) → filter p own ≡ []
    → filter p (extra ++ (own ++ rest)) ≡ filter p (extra ++ rest)
none_taken p extra own rest none =
    rw (filter-append p extra (own ++ rest), filter-append p own rest, filter-append p extra rest, none) refl

-- at the first pair after an entity
pub behind_first : (read : Reading) (pair : Pair) (extra own rest : List Edit) (low high : ℕ)
    → filter (begins_at pair) extra ≡ [] → AreWithin low own high → high ≤ pair.start → pair.start < pair.value
    → stand read (extra ++ (own ++ rest)) pair ≡ texts_at read own pair.start ++ stand read (extra ++ rest) pair
behind_first read pair extra own rest low high silent within before code =
    grind (arith, no_cover, no_value, filter-append, none_taken, texts_both, append_assoc, texts_in, itself_in)

none_begin : (pair : Pair) (low high : ℕ) (own : List Edit) → AreWithin low own high → high < pair.start
    → filter (begins_at pair) own ≡ []
none_begin pair low high [] within before = refl
none_begin pair low high (edit ∷ own) within before = grind (arith, (none_begin pair low high own within.3 before))

-- at the pairs after that one
pub behind_later : (read : Reading) (pair : Pair) (extra own rest : List Edit) (low high : ℕ) → AreWithin low own high
    → high < pair.start → pair.start < pair.value
    → stand read (extra ++ (own ++ rest)) pair ≡ stand read (extra ++ rest) pair
behind_later read pair extra own rest low high within before code =
    grind (arith, none_begin, no_cover, no_value, none_taken)
