-- The invariant and the measure of the loop of `around_sides` in src/side_trees.rt.
use Rattle.std.proofs.Common.{◌-◌}
use Rattle.tin_check.specs.InsideSideTrees.{IsAround}
use Rattle.tin_check.proofs.side_trees.around_sides.Given as goal

-- the box is round the sides so far
abbrev pub invariant-loop-number : goal.invariant-loop-number
invariant-loop-number l = IsAround l.tin l.frame l.sides l.first l.number l.around

abbrev pub decreases-loop-number : goal.decreases-loop-number
decreases-loop-number l = l.past - l.number
