-- The invariant of the loop of `locate_in` in src/locations.rt.
use Rattle.tin_index.proofs.Least.{IsLeastSoFar}
use Rattle.tin_index.proofs.locations.locate_in.Given as goal

abbrev pub invariant-loop-level : goal.invariant-loop-level
invariant-loop-level l = IsLeastSoFar l.tin l.grid l.p l.level l.least
