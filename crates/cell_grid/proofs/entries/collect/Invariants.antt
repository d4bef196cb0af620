-- The invariant of the loop of `collect` in src/entries.rt.
use Rattle.cell_grid.proofs.Collects.{AreFirst}
use Rattle.cell_grid.proofs.entries.collect.Given as goal

abbrev pub invariant-loop-index : goal.invariant-loop-index
invariant-loop-index l = AreFirst l.level l.block l.index l.places.items
