-- Answers to the goals of `is_clear_by_nodes` in src/trees.rt.
use Rattle.std.proofs.Common.{◌<◌, ◌-◌, length, arith}
use Rattle.ring_side.specs.InsideTrees.{node_at}
use Rattle.ring_side.proofs.RingBoxes.ClearNodes.{clear_begins, clear_box, clear_part, clear_enters}
use Rattle.ring_side.proofs.trees.is_clear_by_nodes.Goals as goal

pub loop-left-init : goal.loop-left-init
loop-left-init c = (omega arith, clear_begins c.args.rect.now c.args.ring.now c.args.nodes.now c.requires)

pub loop-left-preserved-then-is_apart_from : goal.loop-left-preserved-then-is_apart_from
loop-left-preserved-then-is_apart_from c =
    let some = c.loop-left-test.true in
    let low = c.loop-left.invariant.0 in
    let within : c.loop-left.left - 1 < length c.args.nodes.now = omega arith in
    let is = c.requires.each (c.loop-left.left - 1) within in
    let base = is.base in (
      omega arith,
      clear_part c.args.rect.now c.args.ring.now c.args.nodes.now c.loop-left.left some is
          (clear_box c.args.rect.now c.args.ring.now (node_at c.args.nodes.now (c.loop-left.left - 1)) is.around
          (c.is_apart_from.ensures.0 c.if-is_apart_from.true))
          c.loop-left.invariant.1,
    )

pub loop-left-preserved-then-base-left : goal.loop-left-preserved-then-base-left
loop-left-preserved-then-base-left c =
    let some = c.loop-left-test.true in
    let low = c.loop-left.invariant.0 in
    let within : c.loop-left.left - 1 < length c.args.nodes.now = omega arith in
    let is = c.requires.each (c.loop-left.left - 1) within in (
      omega arith,
      clear_enters c.args.rect.now c.args.ring.now c.args.nodes.now c.loop-left.left some is c.if-base-left.true c.loop-left.invariant.1,
    )

pub loop-left-preserved : goal.loop-left-preserved
loop-left-preserved c =
    let some = c.loop-left-test.true in
    let low = c.loop-left.invariant.0 in
    let within : c.loop-left.left - 1 < length c.args.nodes.now = omega arith in
    let is = c.requires.each (c.loop-left.left - 1) within in
    let base = is.base in (
      omega arith,
      clear_part c.args.rect.now c.args.ring.now c.args.nodes.now c.loop-left.left some is (c.is_clear_part.ensures c.if-not-is_clear_part.false)
          c.loop-left.invariant.1,
    )
