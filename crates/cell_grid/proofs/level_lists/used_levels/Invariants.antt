-- The invariant of the loop of `used_levels` in src/level_lists.rt.
use Rattle.cell_grid.proofs.UsedLevels.{AreUsedTo}
use Rattle.cell_grid.proofs.level_lists.used_levels.Given as goal

abbrev pub invariant-loop-number : goal.invariant-loop-number
invariant-loop-number l = AreUsedTo l.counts l.number l.used.items
