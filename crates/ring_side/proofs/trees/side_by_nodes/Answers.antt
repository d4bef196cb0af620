-- Answers to the goals of `side_by_nodes` in src/trees.rt.
use Rattle.std.proofs.Common.{◌<◌, ◌-◌, length, arith}
use Rattle.ring_side.specs.InsideTrees.{node_at}
use Rattle.ring_side.proofs.RingBoxes.RingNodes.{first_side, side_before, told_part}
use Rattle.ring_side.proofs.trees.side_by_nodes.Goals as goal

pub loop-left-init : goal.loop-left-init
loop-left-init c = (omega arith, first_side c.args.ring.now c.args.nodes.now c.args.p c.requires.nodes)

pub loop-left-preserved-in-Some : goal.loop-left-preserved-in-Some
loop-left-preserved-in-Some c =
    let some = c.loop-left-test.true in
    let low = c.loop-left.invariant.0 in
    let within : c.loop-left.left - 1 < length c.args.nodes.now = omega arith in
    let is = c.requires.nodes.each (c.loop-left.left - 1) within in
    let base = is.base in (
      omega arith,
      side_before c.args.ring.now c.args.nodes.now c.args.p c.loop-left.left c.in-Some.part c.loop-left.side c.both-side.result _ some is
          (told_part c.args.ring.now (node_at c.args.nodes.now (c.loop-left.left - 1)) c.args.p c.side_at.result c.in-Some.part c.in-Some.is c.side_at.ensures.told) c.both-side.ensures c.loop-left.invariant.1,
    )
