-- The invariant of the loop of `sides_in_order` in src/side_orders.rt.
use Rattle.tin_check.proofs.BorderLemmas.SideOrders.{AreTaken}
use Rattle.tin_check.proofs.side_orders.sides_in_order.Given as goal

-- the sides with the keys so far are taken
abbrev pub invariant-loop-key : goal.invariant-loop-key
invariant-loop-key l = AreTaken l.tin l.sides l.entries.items l.key l.ordered.items
