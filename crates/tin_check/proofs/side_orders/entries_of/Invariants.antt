-- The invariant of the loop of `entries_of` in src/side_orders.rt.
use Rattle.tin_check.specs.InsideSideOrders.{AreNumbered}
use Rattle.tin_check.specs.declared.side_orders.TheConstants.{KEYS}
use Rattle.tin_check.proofs.side_orders.entries_of.Given as goal

-- there is an entry for each side so far
abbrev pub invariant-loop-number : goal.invariant-loop-number
invariant-loop-number l = AreNumbered KEYS l.number l.entries.items
