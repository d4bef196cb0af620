-- Answers to the goals of `exact_boxes` in src/grids.rt.
use Rattle.topo_check.specs.InsideBoxes.{IsExactBox}
use Rattle.topo_check.proofs.Spans.{more_boxes, all_boxes}
use Rattle.topo_check.proofs.grids.exact_boxes.Goals as goal

pub loop-number-preserved : goal.loop-number-preserved
loop-number-preserved c =
    more_boxes (IsExactBox c.args.tin.now) c.args.pieces.now c.loop-number.boxes.items c.push.new.self.items
    c.loop-number.number c.box_at.result c.loop-number-test.true c.loop-number.invariant c.box_at.ensures
    c.in_ok-push.ensures.items

pub returns : goal.returns
returns c = all_boxes (IsExactBox c.args.tin.now) c.args.pieces.now c.loop-number.boxes.items c.loop-number.number
    c.loop-number-test.false c.loop-number.invariant
