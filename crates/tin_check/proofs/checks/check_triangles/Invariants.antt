-- The invariant of the loop of `check_triangles` in src/checks.rt.
use Rattle.tin_check.specs.InsideProgress.{ArePositive}
use Rattle.tin_check.proofs.checks.check_triangles.Given as goal

abbrev pub invariant-loop-triangle : goal.invariant-loop-triangle
invariant-loop-triangle l = ArePositive l.tin l.triangle
