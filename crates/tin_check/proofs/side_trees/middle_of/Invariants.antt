-- The invariant of the loop of `middle_of` in src/side_trees.rt.
use Rattle.std.proofs.Common.{◌<◌}
use Rattle.tin_check.proofs.side_trees.middle_of.Given as goal

-- each part has a side
abbrev pub invariant-loop-number : goal.invariant-loop-number
invariant-loop-number l = (l.first < l.middle) × (l.middle < l.past)
