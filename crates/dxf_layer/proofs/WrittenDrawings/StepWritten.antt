-- What is written in the place of an entity, where the walk is.
use Rattle.std.proofs.Common.{◌≡◌, ℕ, ◌+◌, ◌<◌, ◌≤◌, pos, Bool, true, false, cond, refl, ap, sym, ◌∙◌, subst, List, []}
use Rattle.std.proofs.Common.{◌∷◌, ◌++◌, length, Option, Some, Ok, arith, inl, inr, codes, bytes_eq}
use Rattle.std.specs.Prelude.{◌⊎◌, ◌||◌}
use Rattle.std.proofs.lemmas.List.{length-append}
use Rattle.std.proofs.lemmas.Slice.Eq.{bytes_eq-Decides}
use Rattle.sheet_base.specs.declared.flags.How.{How}
use Rattle.sheet_base.specs.declared.edits.What.TheVariants as edits
use Rattle.sheet_base.specs.declared.paths.PathKind.{PathKind}
use Rattle.sheet_base.specs.ImageFits.{Runs, images_of}
use Rattle.dxf_pairs.specs.declared.pairs.Pair.{Pair}
use Rattle.dxf_pairs.specs.Groups.{Group, group_in, value_in}
use Rattle.dxf_pairs.specs.InLines.{GroupsFollow}
use Rattle.dxf_entities.specs.declared.drawing.VertexFields.{VertexFields}
use Rattle.dxf_entities.specs.Entities.{Entity, is_of_kind}
use Rattle.dxf_entities.specs.Handles.{handle}
use Rattle.dxf_entities.specs.Points.{spot_at}
use Rattle.dxf_entities.specs.Polylines.{plain}
use Rattle.dxf_copies.specs.Rendering.{Reading, run_of}
use Rattle.dxf_layer.specs.InsideWalks.{WalkPlace, free, staying, reading, Step, shapes_read, stays, step}
use Rattle.dxf_entities.proofs.Members.{went}
use Rattle.dxf_entities.proofs.GroupShapes.{next, told, Outline, is_seeded, Told, entity_told, has_kind}
use Rattle.dxf_copies.proofs.GroupDrawings.{Spot, Turn, free_turn, alone, open_line, in_front, walk, turn, AreBack}
use Rattle.dxf_copies.proofs.GroupDrawings.{none_back, groups_told, AreOf, AreWholeTold, IsWritten, none_in_front, kept}
use Rattle.dxf_layer.proofs.EntityWalks.StepGroups.{turn_told, step_told, FreeStep, at_end, on_paper, opens, by_itself, left_out}
use Rattle.dxf_layer.proofs.EntityWalks.StepGroups.{free_step, KeptStep, kept_vertex, kept_end, as_free, kept_step, dropped}
use Rattle.dxf_layer.proofs.EntityWalks.StepGroups.{ReadingStep, one_vertex, the_end, reading_step}
use Rattle.dxf_copies.proofs.ValueTurns.{AreGoodImages}
use Rattle.dxf_layer.proofs.EntityWalks.WalkTrails.{own_edits}
use Rattle.dxf_entities.proofs.WholeShapes.{points_past}
use Rattle.dxf_copies.proofs.WholeTurns.{whole_of, vertex_written, dropped_written}
use Rattle.dxf_entities.proofs.OutlineEnds.{imaged_outlines}
use Rattle.dxf_layer.proofs.WrittenDrawings.EntityCases.{written_for, imaged_spot, no_images, images_both, stays_written, end_written}
use Rattle.dxf_layer.proofs.WrittenDrawings.EntityCases.{IsFound, IsNumbered, LightsAreWritten, alone_case, whole_end}

-- the walk over what is written is where the walk was, or still after a polyline that stays
abbrev pub IsNear : Runs → ℕ → Spot → WalkPlace → Type 0
IsNear images first spot free = (spot ≡ alone) ⊎ (spot ≡ kept)
IsNear images first spot staying = spot ≡ kept
IsNear images first spot (reading kind vertices) =
    spot ≡ open_line kind (images_of images first (first + length vertices))

pub record StepWritten (head : Group) (how : How) (seeded : Bool) (images : Runs) (from : Spot) (first : ℕ)
    (place : WalkPlace) (wanted : List Outline) (groups : List Group) : Type 0 where
  pub to : Spot
  pub near : IsNear images first to place
  pub written : IsWritten head how seeded from to wanted groups

-- a value of one kind is none of another
pub other_value : (value : List ℕ) (f : List ℕ → Bool) (kind : List ℕ) → f value ≡ true → f kind ≡ false
    → bytes_eq value kind ≡ false
other_value value f kind is off = grind (arith, bytes_eq, bytes_eq-Decides)

abbrev alone_value : List ℕ → Bool
alone_value value =
    bytes_eq value (codes "POINT") || bytes_eq value (codes "LINE") || bytes_eq value (codes "LWPOLYLINE") || bytes_eq
    value (codes "TEXT") || bytes_eq value (codes "INSERT")

abbrev polyline_value : List ℕ → Bool
polyline_value value = bytes_eq value (codes "POLYLINE")

-- after a polyline that stays, an entity of another kind is read as any other
kept_free : (how : How) (seeded : Bool) (entity : Told) → has_kind (codes "VERTEX") entity ≡ false
    → has_kind (codes "SEQEND") entity ≡ false → turn how seeded kept entity ≡ free_turn how seeded entity
kept_free how seeded entity no_vertex no_end = rw (no_vertex, no_end) refl

-- the entities in place of one that is read by itself are read as any others
lifted : (head : Group) (how : How) (seeded : Bool) (images : Runs) (first : ℕ) (wanted : List Outline)
    (groups : List Group) → bytes_eq head.value (codes "VERTEX") ≡ false → bytes_eq head.value (codes "SEQEND") ≡ false
    → IsWritten head how seeded alone alone wanted groups
    → StepWritten head how seeded images kept first free wanted groups
lifted head how seeded images first wanted groups no_vertex no_end written =
    by_entities written.entities written.are written.whole written.heads written.walks where
      nothing_out : (outs : List Outline) → Some [] ≡ next (in_front outs) (Some []) → outs ≡ []
      nothing_out [] is = refl
      nothing_out (o ∷ outs) is = absurd (cc)

      by_entities : (entities : List Told) → groups ≡ groups_told entities → AreWholeTold entities → AreOf head entities
          → ((more : List Told) → walk how seeded alone (entities ++ more)
          ≡ next (in_front written.outs) (walk how seeded alone more))
          → StepWritten head how seeded images kept first free wanted groups
      by_entities [] are whole heads walks =
          let none : written.outs ≡ [] = nothing_out written.outs (walks []) in
          record {
            to = kept;
            near = inr refl;
            written = record {
              entities = [];
              are = are;
              whole = tt;
              heads = tt;
              outs = [];
              walks = λ more. none_in_front _;
              same = subst (λ (list : List Outline). AreBack list wanted) none written.same;
            };
          }
      by_entities (entity ∷ entities) are whole heads walks =
          let off : has_kind (codes "VERTEX") entity ≡ false =
          ap (λ (g : Group). bytes_eq g.value (codes "VERTEX")) heads.0 ∙ no_vertex in
          let off_too : has_kind (codes "SEQEND") entity ≡ false =
          ap (λ (g : Group). bytes_eq g.value (codes "SEQEND")) heads.0 ∙ no_end in
          record {
            to = alone;
            near = inl refl;
            written = record {
              entities = entity ∷ entities;
              are = are;
              whole = whole;
              heads = heads;
              outs = written.outs;
              walks = λ more. ap (next (λ (t : Turn). next (in_front t.shapes)
                  (walk how seeded t.next (entities ++ more))))
                  (kept_free how seeded entity off off_too) ∙ walks more;
              same = written.same;
            };
          }

module _ (read : Reading) (how : How) (seed : Option Pair) (count : ℕ) (follow : GroupsFollow)
    (good : AreGoodImages read.images count) (lights : LightsAreWritten read how seed count) (entity : Entity)
    (path first : ℕ) (at : IsFound read entity) where
  abbrev Goal : Spot → WalkPlace → Step → Type 0
  Goal from place here = StepWritten (group_in read.bytes entity.head) how (is_seeded seed) read.images from
      (points_past first here.shapes) here.next (imaged_outlines read.images first here.shapes)
      (written_for read (own_edits path first place entity here) entity)

  -- an entity that stays
  stayed : (from : Spot) (to : Spot) (place : WalkPlace)
      → turn how (is_seeded seed) from (entity_told read.bytes entity) ≡ Some (record { shapes = []; next = to })
      → IsNear read.images first to place
      → StepWritten (group_in read.bytes entity.head) how (is_seeded seed) read.images from first place []
      (written_for read [] entity)
  stayed from to place is near = record {
    to = to;
    near = near;
    written = stays_written read how _ from entity _ [] at.set at.goes_on is none_back;
  }

  free_told_turn : (here : Step) → step read.bytes how seed free entity ≡ Ok here
      → free_turn how (is_seeded seed) (entity_told read.bytes entity) ≡ Some (turn_told here)
  free_told_turn here is = sym (step_told _ how seed free entity) ∙ ap (told turn_told) is

  paper_next : (polyline : Bool) → IsNear read.images first (cond polyline kept alone) (cond polyline staying free)
  paper_next true = refl
  paper_next false = inl refl

  paper_spot : (polyline : Bool) → turn_told (record { shapes = []; next = cond polyline staying free })
      ≡ record { shapes = []; next = cond polyline kept alone }
  paper_spot true = refl
  paper_spot false = refl

  on_alone : (here : Step) → step read.bytes how seed free entity ≡ Ok here → here ≡ stays read.bytes entity
      → Goal alone free here
  on_alone here is here_is = subst (Goal alone free) (sym here_is)
      (stayed alone (cond (is_of_kind read.bytes (codes "POLYLINE") entity) kept alone)
      (cond (is_of_kind read.bytes (codes "POLYLINE") entity) staying free)
      (free_told_turn here is ∙ (ap (λ (h : Step). Some (turn_told h)) here_is
      ∙ ap Some (paper_spot (is_of_kind read.bytes (codes "POLYLINE") entity))))
      (paper_next (is_of_kind read.bytes (codes "POLYLINE") entity)))

  on_kept : (here : Step) → step read.bytes how seed free entity ≡ Ok here → here ≡ stays read.bytes entity
      → Goal kept free here
  on_kept here is here_is = subst (Goal kept free) (sym here_is)
      (by_tests (is_of_kind read.bytes (codes "VERTEX") entity) (is_of_kind read.bytes (codes "SEQEND") entity)
      (is_of_kind read.bytes (codes "POLYLINE") entity) refl refl refl) where
        by_tests : (vertex end polyline : Bool) → is_of_kind read.bytes (codes "VERTEX") entity ≡ vertex
            → is_of_kind read.bytes (codes "SEQEND") entity ≡ end
            → is_of_kind read.bytes (codes "POLYLINE") entity ≡ polyline
            → StepWritten (group_in read.bytes entity.head) how (is_seeded seed) read.images kept first
            (cond polyline staying free) [] (written_for read [] entity)
        by_tests true end true v e p = let off = other_value (value_in read.bytes entity.head) polyline_value
            (codes "VERTEX") p refl in let both : true ≡ false = sym v ∙ off in absurd (cc)
        by_tests true end false v e p = stayed kept kept free (rw v refl) (inr refl)
        by_tests false true true v e p = let off =
            other_value (value_in read.bytes entity.head) polyline_value (codes "SEQEND") p refl in let both : true
            ≡ false = sym e ∙ off in absurd (cc)
        by_tests false true false v e p = stayed kept alone free (rw (v, e) refl) (inl refl)
        by_tests false false polyline v e p = stayed kept (cond polyline kept alone) (cond polyline staying free)
            (kept_free how (is_seeded seed) (entity_told read.bytes entity) v e
            ∙ (free_told_turn here is ∙ (ap (λ (h : Step). Some (turn_told h)) here_is
            ∙ (ap (λ (b : Bool). Some (turn_told (record { shapes = []; next = cond b staying free }))) p
            ∙ ap Some (paper_spot polyline)))))
            (paper_next polyline)

  opened_at : (from : Spot) (kind : PathKind) → turn how (is_seeded seed) from (entity_told read.bytes entity)
      ≡ Some (record { shapes = []; next = open_line kind [] })
      → Goal from free (record { shapes = []; next = reading kind [] })
  opened_at from kind is = stayed from (open_line kind []) (reading kind []) is
      (ap (open_line kind) (sym (no_images read.images first)))

  pub free_written : (spot : Spot) → IsNear read.images first spot free → (here : Step)
      → step read.bytes how seed free entity ≡ Ok here → IsNumbered read count path first here.shapes
      → Goal spot free here
  free_written spot near here is numbered = by_step (free_step read.bytes how seed entity here is) where
    by_near : (P : Spot → Type 0) → P alone → P kept → (spot ≡ alone) ⊎ (spot ≡ kept) → P spot
    by_near P first_case second_case (inl same) = subst P (sym same) first_case
    by_near P first_case second_case (inr same) = subst P (sym same) second_case

    by_step : FreeStep read.bytes how seed entity here → Goal spot free here
    by_step (at_end last) = let both : true ≡ false = sym last.ends ∙ at.goes_on in absurd (cc)
    by_step (on_paper on) = by_near (λ (s : Spot). Goal s free here) (on_alone here is on.here_is)
        (on_kept here is on.here_is) near
    by_step (opens begun) =
        let off = other_value (value_in read.bytes entity.head) polyline_value (codes "VERTEX") begun.polyline refl in
        let off_too = other_value (value_in read.bytes entity.head) polyline_value (codes "SEQEND") begun.polyline
        refl in
        let turned = free_told_turn here is ∙ ap (λ (h : Step). Some (turn_told h)) begun.here_is in
        subst (Goal spot free) (sym begun.here_is)
        (by_near (λ (s : Spot). Goal s free (record { shapes = []; next = reading begun.kind [] }))
        (opened_at alone begun.kind turned)
        (opened_at kept begun.kind (kept_free how (is_seeded seed) (entity_told read.bytes entity) off off_too
        ∙ turned)) near)
    by_step (by_itself lone) =
        let off = other_value (value_in read.bytes entity.head) alone_value (codes "VERTEX") lone.read.alone refl in
        let off_too = other_value (value_in read.bytes entity.head) alone_value (codes "SEQEND") lone.read.alone refl in
        let numbered_too = subst (λ (h : Step). IsNumbered read count path first h.shapes) lone.here_is numbered in
        let written = alone_case read how seed count follow good lights entity path first at lone.shapes lone.read
        numbered_too in subst (Goal spot free) (sym lone.here_is)
        (by_near (λ (s : Spot). Goal s free (shapes_read lone.shapes))
        (record { to = alone; near = inl refl; written = written })
        (lifted (group_in read.bytes entity.head) how (is_seeded seed) read.images (points_past first lone.shapes)
        (imaged_outlines read.images first lone.shapes) _ off off_too written) near)
    by_step (left_out left) = subst (Goal spot free) (sym left.here_is) (record {
      to = spot;
      near = near;
      written = subst (IsWritten (group_in read.bytes entity.head) how (is_seeded seed) spot spot
          (imaged_outlines read.images first (dropped entity ∷ [])))
          (sym (whole_end read entity at.set (whole_of entity edits.Drop) refl))
          (dropped_written read how (is_seeded seed) spot entity
          (imaged_outlines read.images first (dropped entity ∷ [])) at.set
          (record { ends = refl; heights = refl }));
    })

  pub kept_written : (here : Step) → step read.bytes how seed staying entity ≡ Ok here
      → IsNumbered read count path first here.shapes → Goal kept staying here
  kept_written here is numbered = by_step (kept_step read.bytes how seed entity here is) where
    turned : turn how (is_seeded seed) kept (entity_told read.bytes entity) ≡ Some (turn_told here)
    turned = sym (step_told read.bytes how seed staying entity) ∙ ap (told turn_told) is

    by_step : KeptStep read.bytes how seed entity here → Goal kept staying here
    by_step (kept_vertex vertex) = subst (Goal kept staying) (sym vertex.here_is)
        (stayed kept kept staying (turned ∙ ap (λ (h : Step). Some (turn_told h)) vertex.here_is) refl)
    by_step (kept_end end) = subst (Goal kept staying) (sym end.here_is)
        (stayed kept alone free (turned ∙ ap (λ (h : Step). Some (turn_told h)) end.here_is) (inl refl))
    by_step (as_free other) = free_written kept (inr refl) here other.other numbered

  pub reading_written : (kind : PathKind) (vertices : List VertexFields) (here : Step)
      → step read.bytes how seed (reading kind vertices) entity ≡ Ok here → first + length vertices ≤ count
      → ((more : VertexFields) → here ≡ record { shapes = []; next = reading kind (vertices ++ more ∷ []) }
      → first + length vertices < count) → Goal (imaged_spot read.images first (reading kind vertices))
      (reading kind vertices) here
  reading_written kind vertices here is inside one_more =
      by_step (reading_step _ how seed kind vertices entity here is) where
        n : ℕ
        n = first + length vertices

        by_step : ReadingStep read.bytes how seed kind vertices entity here
            → Goal (imaged_spot read.images first (reading kind vertices)) (reading kind vertices) here
        by_step (the_end end) =
            subst (Goal (imaged_spot read.images first (reading kind vertices)) (reading kind vertices))
            (sym end.here_is)
            (record {
              to = alone;
              near = inl refl;
              written =
                  end_written read how seed entity kind vertices count first at.set at.goes_on end.no_vertex end.is_end
                  good
                  inside;
            })
        by_step (one_vertex vertex) =
            let own = went _ (handle seed entity) _ vertex.vertex_is in
            let spot = went _ (spot_at read.bytes how.exact (pos 10) (pos 20) entity) _ own.gives in
            let flat = went _ (plain read.bytes entity) _ spot.gives in
            let less = one_more vertex.vertex vertex.here_is in
            let more : first + length (vertices ++ vertex.vertex ∷ []) ≡ n + 1 =
            omega (arith, length-append vertices (vertex.vertex ∷ [])) in
            let images : images_of read.images first n ++ run_of read.images n
            ≡ images_of read.images first (first + length (vertices ++ vertex.vertex ∷ [])) =
            sym (images_both _ count first n _ good (omega arith) (omega arith) (omega arith)) ∙ ap
            (images_of read.images first) (sym more) in
            subst (Goal (imaged_spot read.images first (reading kind vertices)) (reading kind vertices))
            (sym vertex.here_is) (record {
              to = open_line kind (images_of read.images first n ++ run_of read.images n);
              near = ap (open_line kind) images;
              written = subst (IsWritten (group_in read.bytes entity.head) how (is_seeded seed) (open_line kind
                  (images_of read.images first n)) (open_line kind (images_of read.images first n ++ run_of read.images
                  n)) []) (sym (whole_end read entity at.set _ refl)) (vertex_written follow read how seed entity _ kind
                  _ count n at.set
                  at.goes_on vertex.is_vertex (record { own = own.is; spot_is = spot.is; plain_is = flat.is }) at.found
                  good less);
            })
