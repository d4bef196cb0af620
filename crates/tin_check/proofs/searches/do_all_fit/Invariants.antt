-- The invariant of the loop of `do_all_fit` in src/searches.rt.
use Rattle.tin_check.proofs.PairFits.Partners.{DoPartnersFit}
use Rattle.tin_check.proofs.searches.do_all_fit.Given as goal

-- the triangles so far fit with their partners
abbrev pub invariant-loop-triangle : goal.invariant-loop-triangle
invariant-loop-triangle l = DoPartnersFit l.tin l.frame l.grid l.triangle
