-- Answers to the goals of `order_of` in src/orders.rt.
use Rattle.std.proofs.Common.{◌≡◌, length, arith}
use Rattle.ring_side.proofs.PointGroups.OrderLemmas.{order_as}
use Rattle.ring_side.proofs.orders.order_of.Goals as goal

pub returns : goal.returns
returns c =
    let past = c.loop-entry-test.false in
    let end = c.loop-entry.auto.entry-index-end in
    let all : c.loop-entry.entry-index ≡ length c.deref-entry-items.result.now = omega arith in
    order_as (length c.args.boxes.now) c.loop-entry.order.items c.deref-entry-items.result.now c.in_ok-entries.entries.items
    c.loop-entry.entry-index c.loop-entry.invariant c.deref-entry-items.ensures.value all c.in_ok-entries.ensures
