-- The invariant of the loop of `fits_each` in src/searches.rt.
use Rattle.tin_check.proofs.PairFits.Partners.{DoFirstOthersFit}
use Rattle.tin_check.proofs.searches.fits_each.Given as goal

-- those so far fit
abbrev pub invariant-loop-other : goal.invariant-loop-other
invariant-loop-other l = DoFirstOthersFit l.tin l.frame l.triangle l.others l.other-index
