-- The invariant of the loop of `stars_of` in src/stars.rt.
use Rattle.tin_index.specs.Stars.{AreEntriesTo}
use Rattle.tin_index.proofs.stars.stars_of.Given as goal

abbrev pub invariant-loop-triangle : goal.invariant-loop-triangle
invariant-loop-triangle l = AreEntriesTo l.tin l.triangle l.entries.items
