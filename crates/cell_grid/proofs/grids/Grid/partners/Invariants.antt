-- The invariant of the loop of `Grid::partners` in src/grids.rt.
use Rattle.std.proofs.Common.{[]}
use Rattle.cell_grid.specs.InsideLevelPartners.{DoesTell, IsPartnerOnFirst}
use Rattle.cell_grid.proofs.grids.Grid.partners.Given as goal

abbrev pub invariant-loop-place : goal.invariant-loop-place
invariant-loop-place l = DoesTell (IsPartnerOnFirst l.self l.number l.place) [] l.found.items
