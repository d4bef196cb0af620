-- The invariant of the loop of `put_sides` in src/side_orders.rt.
use Rattle.std.proofs.Common.{◌≡◌, ◌++◌, map, take}
use Rattle.tin_check.specs.InsideBorders.{side_at}
use Rattle.tin_check.proofs.side_orders.put_sides.Given as goal

-- the sides with the numbers so far are added
abbrev pub invariant-loop-number : goal.invariant-loop-number
invariant-loop-number l = l.ordered.items ≡ l.initial.ordered.items ++ map (side_at l.sides) (take l.number-index l.numbers)
