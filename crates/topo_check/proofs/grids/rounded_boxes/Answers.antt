-- Answers to the goals of `rounded_boxes` in src/grids.rt.
use Rattle.topo_check.specs.InsideBoxes.{IsRoundedBox}
use Rattle.topo_check.proofs.Spans.{more_boxes, all_boxes}
use Rattle.topo_check.proofs.grids.rounded_boxes.Goals as goal

pub loop-piece-preserved : goal.loop-piece-preserved
loop-piece-preserved c =
    more_boxes IsRoundedBox c.args.pieces.now c.loop-piece.boxes.items c.push.new.self.items c.loop-piece.piece-index
    c.rounded_box.result c.loop-piece-test.true c.loop-piece.invariant c.rounded_box.ensures
    c.in_ok-push.ensures.items

pub returns : goal.returns
returns c = all_boxes IsRoundedBox c.args.pieces.now c.loop-piece.boxes.items c.loop-piece.piece-index
    c.loop-piece-test.false c.loop-piece.invariant
