-- The invariant of the loop of `entries_of` in src/entries.rt.
use Rattle.cell_grid.specs.InsideEntries.{AreEntered}
use Rattle.cell_grid.proofs.entries.entries_of.Given as goal

abbrev pub invariant-loop-number : goal.invariant-loop-number
invariant-loop-number l = AreEntered l.boxes l.number l.levels l.entries.items
