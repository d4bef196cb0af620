-- The invariant of the loop of `sorted_entries` in src/orders.rt.
use Rattle.std.proofs.Common.{◌^◌, ◌%◌, ℕ, map}
use Rattle.ring_side.specs.InsideOrders.{IsOrder}
use Rattle.ring_side.proofs.orders.sorted_entries.Given as goal

abbrev pub invariant-loop-number : goal.invariant-loop-number
invariant-loop-number l = IsOrder l.number (map (λ (e : ℕ). e % 2 ^ 32) l.entries.items)
