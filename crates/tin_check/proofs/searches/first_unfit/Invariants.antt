-- The invariant of the loop of `first_unfit` in src/searches.rt.
use Rattle.tin_check.proofs.CallerLemmas.Progress.{DoListedFit}
use Rattle.tin_check.proofs.searches.first_unfit.Given as goal

-- those so far fit
abbrev pub invariant-loop-second : goal.invariant-loop-second
invariant-loop-second l = DoListedFit l.tin l.frame l.first l.seconds l.second-index
