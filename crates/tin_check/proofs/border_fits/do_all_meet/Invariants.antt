-- The invariant and the measure of the loop of `do_all_meet` in src/border_fits.rt.
use Rattle.std.proofs.Common.{◌-◌}
use Rattle.tin_base.specs.declared.frames.Frame.TheVariants.{Source, Target}
use Rattle.tin_check.specs.InsideSideTrees.{first_of, past_of, DoSomeMeet}
use Rattle.tin_check.proofs.border_fits.do_all_meet.Given as goal

-- the triangles so far meet the sides in common corners alone, in each frame
abbrev pub invariant-loop-first : goal.invariant-loop-first
invariant-loop-first l = DoSomeMeet l.tin Source l.sides (first_of l.source) (past_of l.source) 0 l.first
    × DoSomeMeet l.tin Target l.sides (first_of l.target) (past_of l.target) 0 l.first

abbrev pub decreases-loop-first : goal.decreases-loop-first
decreases-loop-first l = l.count - l.first
