-- Answers to the goals of `sorted_entries` in src/orders.rt.
use Rattle.std.proofs.Common.{◌≡◌, ◌%◌, ◌^◌, ℕ, arith, length, map, subst}
use Rattle.ring_side.specs.InsideOrders.{IsOrder}
use Rattle.ring_side.proofs.PointGroups.OrderLemmas.{entry_pushed, order_moved}
use Rattle.ring_side.proofs.orders.sorted_entries.Goals as goal

pub loop-number-preserved : goal.loop-number-preserved
loop-number-preserved c =
    entry_pushed c.loop-number.entries.items c.push.new.self.items c.entry.result c.loop-number.number c.in_ok-push.ensures.items
    c.entry.ensures c.loop-number.invariant

pub returns : goal.returns
returns c =
    let past = c.loop-number-test.false in
    let end = c.loop-number.auto.number-end in
    let e : c.loop-number.number ≡ length c.args.boxes.now = omega arith in
    order_moved (length c.args.boxes.now) c.loop-number.entries.items c.sort_unstable.new.self.items c.sort_unstable.ensures.permutation
    (subst (λ (n : ℕ). IsOrder n (map (λ (entry : ℕ). entry % 2 ^ 32) c.loop-number.entries.items)) e c.loop-number.invariant)
