-- The invariant of the loop of `is_beside_earlier` in src/within_limits.rt.
use Rattle.tin_base.specs.InsideLimits.{IsBesideFirst}
use Rattle.tin_base.proofs.within_limits.is_beside_earlier.Given as goal

abbrev pub invariant-loop-m : goal.invariant-loop-m
invariant-loop-m l = IsBesideFirst l.corners l.n l.m
