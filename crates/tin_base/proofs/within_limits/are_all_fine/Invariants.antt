-- The invariant of the loop of `are_all_fine` in src/within_limits.rt.
use Rattle.tin_base.specs.InsideLimits.{AreFirstFine}
use Rattle.tin_base.proofs.within_limits.are_all_fine.Given as goal

abbrev pub invariant-loop-n : goal.invariant-loop-n
invariant-loop-n l = AreFirstFine l.corners l.n
