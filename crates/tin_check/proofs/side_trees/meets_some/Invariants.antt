-- The invariant and the measure of the loop of `meets_some` in src/side_trees.rt.
use Rattle.std.proofs.Common.{◌-◌}
use Rattle.tin_check.specs.InsideSideTrees.{DoMeetFrom}
use Rattle.tin_check.proofs.side_trees.meets_some.Given as goal

-- the sides so far meet the triangle in a common corner at most
abbrev pub invariant-loop-number : goal.invariant-loop-number
invariant-loop-number l = DoMeetFrom l.tin l.frame l.sides l.triangle l.first l.number

abbrev pub decreases-loop-number : goal.decreases-loop-number
decreases-loop-number l = l.past - l.number
