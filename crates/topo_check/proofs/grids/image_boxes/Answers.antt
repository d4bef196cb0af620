-- Answers to the goals of `image_boxes` in src/grids.rt.
use Rattle.topo_check.specs.InsideImages.{IsImageBox}
use Rattle.topo_check.proofs.Spans.{more_boxes}
use Rattle.topo_check.proofs.grids.image_boxes.Goals as goal

pub loop-number-preserved : goal.loop-number-preserved
loop-number-preserved c =
    more_boxes (IsImageBox c.args.tin.now) c.args.pieces.now c.loop-number.boxes.items c.push.new.self.items
    c.loop-number.number c.in-Some.rect c.loop-number-test.true c.loop-number.invariant c.in-Some.ensures
    c.in_ok-push-in-Some.ensures.items
