-- Answers to the goals of `outer_box` in src/boxes.rt.
use Rattle.std.proofs.Common.{◌≡◌, sym, subst, ◌∙◌, ap₂}
use Rattle.plane_base.specs.Boxes.{box_of_segment, box_of_triangle, common_of}
use Rattle.plane_base.specs.declared.shapes.Rect.{Rect}
use Rattle.topo_check.specs.InsideBoxes.{IsExactBox}
use Rattle.topo_check.proofs.InBoxes.{exact_boxed}
use Rattle.topo_check.proofs.boxes.outer_box.Goals as goal

pub returns : goal.returns
returns c =
    let piece = c.args.piece.now in let t = c.tri.result in
    let is : c.common.result ≡ common_of (box_of_segment piece.a piece.b) (box_of_triangle t) = c.common.ensures
    ∙ ap₂ (λ (p q : Rect). common_of p q) c.of_segment-segment.ensures c.of_triangle-triangle.ensures in
    subst (λ (box : Rect). IsExactBox c.args.tin.now piece box) (sym is)
    (exact_boxed c.args.tin.now piece t c.requires c.tri.ensures.limits c.tri.ensures.corners)
