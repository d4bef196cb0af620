-- Answers to the goals of `displacements` in src/image_boxes.rt.
use Rattle.std.proofs.Common.{sym, subst}
use Rattle.plane_base.specs.declared.shapes.Pt.{Pt}
use Rattle.plane_base.specs.declared.shapes.Rect.{Rect}
use Rattle.plane_base.specs.declared.shapes.Tri.{Tri}
use Rattle.plane_base.specs.Boxes.{HasPoint}
use Rattle.plane_base.proofs.Bounds.BoxLemmas.{triangle_has}
use Rattle.topo_check.proofs.image_boxes.displacements.Goals as goal

pub returns-clause-a : goal.returns-clause-a
returns-clause-a c =
    let t : Tri = record {
      a = c.in_ok-displacement.field-0;
      b = c.in_ok-displacement-2.field-0;
      c = c.in_ok-displacement-3.field-0;
    } in
    subst (λ (p : Pt). HasPoint c.of_triangle.result p) c.in_ok-displacement.ensures
    (subst (λ (box : Rect). HasPoint box t.a) (sym c.of_triangle.ensures) (triangle_has t).first)

pub returns-clause-b : goal.returns-clause-b
returns-clause-b c =
    let t : Tri = record {
      a = c.in_ok-displacement.field-0;
      b = c.in_ok-displacement-2.field-0;
      c = c.in_ok-displacement-3.field-0;
    } in
    subst (λ (p : Pt). HasPoint c.of_triangle.result p) c.in_ok-displacement-2.ensures
    (subst (λ (box : Rect). HasPoint box t.b) (sym c.of_triangle.ensures) (triangle_has t).second)

pub returns-clause-c : goal.returns-clause-c
returns-clause-c c =
    let t : Tri = record {
      a = c.in_ok-displacement.field-0;
      b = c.in_ok-displacement-2.field-0;
      c = c.in_ok-displacement-3.field-0;
    } in
    subst (λ (p : Pt). HasPoint c.of_triangle.result p) c.in_ok-displacement-3.ensures
    (subst (λ (box : Rect). HasPoint box t.c) (sym c.of_triangle.ensures) (triangle_has t).third)
