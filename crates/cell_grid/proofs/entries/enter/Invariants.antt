-- The invariant of the loop of `enter` in src/entries.rt.
use Rattle.std.proofs.Common.{◌≡◌, ◌++◌, map, take}
use Rattle.cell_grid.specs.InsideEntries.{entry_of}
use Rattle.cell_grid.proofs.entries.enter.Given as goal

abbrev pub invariant-loop-place : goal.invariant-loop-place
invariant-loop-place l = l.entries.items ≡ l.initial.entries.items
    ++ map (entry_of l.number) (take l.place-index l.places)
