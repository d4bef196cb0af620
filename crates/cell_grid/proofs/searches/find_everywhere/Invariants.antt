-- The invariant of the loop of `find_everywhere` in src/searches.rt.
use Rattle.std.proofs.Common.{◌+◌}
use Rattle.cell_grid.specs.InsideSearches.{DoesFind, StandsBefore}
use Rattle.cell_grid.proofs.searches.find_everywhere.Given as goal

abbrev pub invariant-loop-index : goal.invariant-loop-index
invariant-loop-index l = DoesFind l.boxes.boxes l.r (StandsBefore l.cells (λ k. l.level.base + k) l.index)
    l.initial.found.items l.found.items
