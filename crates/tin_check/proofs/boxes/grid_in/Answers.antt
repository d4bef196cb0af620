-- Answers to the goals of `grid_in` in src/boxes.rt.
use Rattle.std.proofs.Common.{arith}
use Rattle.tin_check.proofs.PairFits.Apart.{more_boxes, all_boxes, boxes_ordered, boxes_span}
use Rattle.tin_check.proofs.boxes.grid_in.Goals as goal

pub loop-triangle-preserved : goal.loop-triangle-preserved
loop-triangle-preserved c =
    more_boxes c.args.tin.now c.args.frame c.loop-triangle.triangle c.loop-triangle.boxes.items c.push.new.self.items
    c.box_in.result c.loop-triangle.invariant c.box_in.ensures c.in_ok-push.ensures.items

pub build-requires-clause-ordered : goal.build-requires-clause-ordered
build-requires-clause-ordered c = rw c.deref.ensures.value
    (boxes_ordered c.args.tin.now c.args.frame c.loop-triangle.boxes.items
    (all_boxes c.args.tin.now c.args.frame c.loop-triangle.triangle c.loop-triangle.boxes.items (omega arith)
    c.loop-triangle.invariant))

pub build-requires-clause-span : goal.build-requires-clause-span
build-requires-clause-span c = rw c.deref.ensures.value
    (boxes_span c.args.tin.now c.args.frame c.loop-triangle.boxes.items c.triangles.ensures.limits
    (all_boxes c.args.tin.now c.args.frame c.loop-triangle.triangle c.loop-triangle.boxes.items (omega arith)
    c.loop-triangle.invariant))
