-- Answers to the goals of `exact_box` in src/boxes.rt.
use Rattle.std.proofs.Common.{sym, subst}
use Rattle.plane_base.specs.declared.shapes.Rect.{Rect}
use Rattle.topo_check.specs.InsideBoxes.{IsExactBox}
use Rattle.topo_check.proofs.Tight.{tightened}
use Rattle.topo_check.proofs.boxes.exact_box.Goals as goal

pub returns : goal.returns
returns c =
    let tin = c.args.tin.now in let piece = c.args.piece.now in let span = c.piece_span-span.result in
    subst (λ (box : Rect). IsExactBox tin piece box) (sym c.common.ensures)
    (tightened tin piece span.lo span.hi c.around_span.result c.outer_box-outer.result c.requires
    c.outer_box-outer.ensures c.piece_span-span.ensures.points c.around_span.ensures)
