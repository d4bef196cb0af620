-- The invariant of the loop of `find_among` in src/searches.rt.
use Rattle.cell_grid.specs.InsideSearches.{DoesFind, IsOneOf}
use Rattle.cell_grid.proofs.searches.find_among.Given as goal

abbrev pub invariant-loop-number : goal.invariant-loop-number
invariant-loop-number l = DoesFind l.boxes.boxes l.r (IsOneOf l.numbers l.number-index) l.initial.found.items
    l.found.items
