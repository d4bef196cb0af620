-- The invariant of the loop of `first_in_order` in src/searches.rt.
use Rattle.tin_check.specs.InsideProgress.{DoFitBefore}
use Rattle.tin_check.proofs.searches.first_in_order.Given as goal

-- the pairs of the first triangles so far fit
abbrev pub invariant-loop-first : goal.invariant-loop-first
invariant-loop-first l = DoFitBefore l.tin l.frame l.first 0
