-- The invariant of the loop of `Grid::near` in src/grids.rt.
use Rattle.std.proofs.Common.{[]}
use Rattle.cell_grid.specs.InsideSearches.{DoesFind, IsOnFirst}
use Rattle.cell_grid.proofs.grids.Grid.near.Given as goal

abbrev pub invariant-loop-used : goal.invariant-loop-used
invariant-loop-used l = DoesFind l.self.boxes l.r (IsOnFirst l.self l.used-index) [] l.numbers.items
