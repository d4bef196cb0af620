-- The invariant of the loop of `least_of` in src/locations.rt.
use Rattle.tin_index.proofs.Least.{NoneBefore}
use Rattle.tin_index.proofs.locations.least_of.Given as goal

abbrev pub invariant-loop-place : goal.invariant-loop-place
invariant-loop-place l = NoneBefore l.tin l.p l.numbers l.place
