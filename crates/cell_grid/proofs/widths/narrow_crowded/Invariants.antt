-- The invariant of the loop of `narrow_crowded` in src/widths.rt.
use Rattle.cell_grid.specs.LevelLists.{HaveSamePlaces}
use Rattle.cell_grid.proofs.widths.narrow_crowded.Given as goal

abbrev pub invariant-loop-round : goal.invariant-loop-round
invariant-loop-round l = HaveSamePlaces l.initial.levels.items l.levels.items
