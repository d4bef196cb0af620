-- Answers to the goals of `step_reading` in src/walks.rt.
use Rattle.std.proofs.Common.{◌≡◌, ◌∙◌, sym, refl, ap, subst, Ok, true}
use Rattle.std.specs.Prelude.{codes}
use Rattle.dxf_entities.specs.EntityViews.{entity_view}
use Rattle.dxf_entities.specs.Entities.{is_of_kind}
use Rattle.dxf_entities.specs.Polylines.{entity_vertex}
use Rattle.dxf_entities.specs.DrawingContents.{with_own_vertex}
use Rattle.dxf_layer.proofs.EntityWalks.WalkSteps.{own_behind}
use Rattle.dxf_layer.proofs.walks.step_reading.Goals as goal

pub returns-in_ok-add_own_vertex-clause-goes : goal.returns-in_ok-add_own_vertex-clause-goes
returns-in_ok-add_own_vertex-clause-goes c = λ before vertices first_is held.
    let yes : is_of_kind c.args.source.now.bytes.now (codes "VERTEX") (entity_view c.args.entity.now) ≡ true =
    subst (λ kind. is_of_kind c.args.source.now.bytes.now kind (entity_view c.args.entity.now) ≡ true) c.as_slice.ensures
    (sym c.is_kind.ensures ∙ c.if-is_kind.true) in
    let vertex_is : entity_vertex c.args.source.now.bytes.now c.args.source.now.how.exact c.args.source.now.seed
    (entity_view c.args.entity.now) ≡ Ok c.in_ok-vertex.vertex = sym c.in_ok-vertex.ensures in
    rw (yes, vertex_is) (record {
      held = c.in_ok-add_own_vertex.ensures.added
          ∙ (ap (λ d. with_own_vertex d c.in_ok-vertex.vertex) held ∙ own_behind before vertices c.in_ok-vertex.vertex);
      shows = (refl, first_is);
    })
