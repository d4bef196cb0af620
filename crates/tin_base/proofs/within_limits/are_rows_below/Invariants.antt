-- The invariant of the loop of `are_rows_below` in src/within_limits.rt.
use Rattle.tin_base.specs.InsideLimits.{AreRowsBelow}
use Rattle.tin_base.proofs.within_limits.are_rows_below.Given as goal

abbrev pub invariant-loop-row : goal.invariant-loop-row
invariant-loop-row l = AreRowsBelow l.rows l.count l.row-index
