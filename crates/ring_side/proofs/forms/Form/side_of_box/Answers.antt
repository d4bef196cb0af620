-- Answers to the goals of `side_of_box` in src/forms.rt.
use Rattle.std.proofs.Common.{◌∙◌, ap, arith}
use Rattle.ring_side.specs.Sides.{side_of}
use Rattle.ring_side.proofs.RingBoxes.BoxSides.{outside_of_box, side_of_corner}
use Rattle.ring_side.proofs.forms.Form.side_of_box.Goals as goal

pub returns-then-is_apart_from : goal.returns-then-is_apart_from
returns-then-is_apart_from c = grind (arith, outside_of_box, c.is_apart_from.ensures.0, c.if-is_apart_from.true)

pub returns : goal.returns
returns c =
    side_of_corner c.args.rect.now c.args.self.now.points.now c.side.result (c.side.ensures ∙ ap (side_of c.args.self.now.points.now) c.corner.ensures)
    (c.is_clear_by_nodes.ensures c.if-not-is_clear_by_nodes.false)
