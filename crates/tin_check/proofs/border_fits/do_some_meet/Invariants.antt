-- The invariant and the measure of the loop of `do_some_meet` in src/border_fits.rt.
use Rattle.std.proofs.Common.{◌-◌}
use Rattle.tin_check.specs.InsideSideTrees.{first_of, past_of, DoSomeMeet}
use Rattle.tin_check.proofs.border_fits.do_some_meet.Given as goal

-- the triangles so far meet the sides in common corners alone
abbrev pub invariant-loop-triangle : goal.invariant-loop-triangle
invariant-loop-triangle l = DoSomeMeet l.tin l.frame l.sides (first_of l.tree) (past_of l.tree) l.first l.triangle

abbrev pub decreases-loop-triangle : goal.decreases-loop-triangle
decreases-loop-triangle l = l.past - l.triangle
