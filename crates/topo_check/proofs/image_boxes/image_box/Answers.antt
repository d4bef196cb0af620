-- Answers to the goals of `image_box` in src/image_boxes.rt.
use Rattle.std.proofs.Common.{◌≡◌, sym, subst, ◌∙◌, ap₂, rules}
use Rattle.plane_base.specs.declared.shapes.Rect.{Rect}
use Rattle.plane_base.specs.Boxes.{HasPoint, box_of_triangle, common_of, box_of_boxes}
use Rattle.topo_check.specs.InsideBoxes.{rounded_box_of}
use Rattle.topo_check.specs.InsideImages.{moved_by, IsImageBox}
use Rattle.topo_check.proofs.Images.{image_boxed}
use Rattle.topo_check.proofs.image_boxes.image_box.Goals as goal

pub returns : goal.returns
returns c =
    let tin = c.args.tin.now in let piece = c.args.piece.now in let exact = c.args.exact.now in
    let t = c.tri-source.result in let u = c.tri-target.result in let ways = c.in_ok-displacements.displacements in
    let outer : c.of_triangle-outer.result ≡ box_of_triangle u = c.of_triangle-outer.ensures in
    let ha : HasPoint c.of_triangle-outer.result piece.ia = c.has_point.ensures.0 (search rules) in
    let hb : HasPoint c.of_triangle-outer.result piece.ib = c.has_point-2.ensures.0 (search rules) in
    let is : c.with_box.result
    ≡ box_of_boxes (common_of (moved_by ways exact) (box_of_triangle u)) (rounded_box_of piece) =
    c.with_box.ensures
    ∙ ap₂ (λ (p q : Rect). box_of_boxes p q)
    (c.common-images.ensures ∙ ap₂ (λ (p q : Rect). common_of p q) c.in_ok-move_box.ensures outer) c.rounded_box.ensures in
    subst (λ (box : Rect). IsImageBox tin piece box) (sym is)
    (image_boxed tin piece t u exact ways c.requires.inside c.tri-source.ensures.limits
    (record { source = c.tri-source.ensures.corners; target = c.tri-target.ensures.corners })
    (record {
      first = c.in_ok-displacements.ensures.a;
      second = c.in_ok-displacements.ensures.b;
      third = c.in_ok-displacements.ensures.c;
    })
    c.requires.exact (subst (λ (box : Rect). HasPoint box piece.ia) outer ha)
    (subst (λ (box : Rect). HasPoint box piece.ib) outer hb))
