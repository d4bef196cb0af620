-- Answers to the goals of `boxes_of` in src/boxes.rt.
use Rattle.tin_index.proofs.SourceBoxes.{no_boxes, boxes_more}
use Rattle.tin_index.proofs.boxes.boxes_of.Goals as goal

pub loop-triangle-init : goal.loop-triangle-init
loop-triangle-init c = no_boxes c.args.tin.now c.in_ok-boxes.boxes.items c.in_ok-boxes.ensures.items

pub loop-triangle-preserved : goal.loop-triangle-preserved
loop-triangle-preserved c =
    boxes_more c.args.tin.now c.loop-triangle.triangle c.loop-triangle.boxes.items c.push.new.self.items
    c.of_triangle.result c.tri.result c.loop-triangle.invariant c.tri.ensures.corners c.of_triangle.ensures
    c.in_ok-push.ensures.items
