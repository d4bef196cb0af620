-- The invariant of the loop of `tell` in src/level_partners.rt.
use Rattle.cell_grid.specs.InsideLevelPartners.{DoesTell, IsToldBefore}
use Rattle.cell_grid.proofs.level_partners.tell.Given as goal

abbrev pub invariant-loop-index : goal.invariant-loop-index
invariant-loop-index l = DoesTell (IsToldBefore l.asked l.boxes.boxes l.index) l.initial.found.items l.found.items
