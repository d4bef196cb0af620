-- The invariant of the loop of `order_of` in src/orders.rt.
use Rattle.std.proofs.Common.{◌≡◌, ◌^◌, ◌%◌, ℕ, map, take}
use Rattle.ring_side.proofs.orders.order_of.Given as goal

abbrev pub invariant-loop-entry : goal.invariant-loop-entry
invariant-loop-entry l = l.order.items ≡ map (λ (e : ℕ). e % 2 ^ 32) (take l.entry-index l.entry-items)
