-- The invariant of the loop of `narrow` in src/widths.rt.
use Rattle.cell_grid.specs.LevelLists.{HaveSamePlaces}
use Rattle.cell_grid.proofs.widths.narrow.Given as goal

abbrev pub invariant-loop-number : goal.invariant-loop-number
invariant-loop-number l = HaveSamePlaces l.initial.levels.items l.levels.items
